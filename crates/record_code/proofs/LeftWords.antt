-- What the words of a kind write is short where their arguments are.
use Rattle.std.proofs.Common.{ℤ, List, [], ◌∷◌, Option, Some, None}
use Rattle.plain_data.specs.Texts.{Bytes}
use Rattle.rdt_types.specs.declared.address.Kind.{Kind}
use Rattle.rdt_types.specs.declared.address.Kind.TheVariants as kind
use Rattle.rdt_types.specs.declared.operation.WriteOp.{WriteOp}
use Rattle.rdt_types.specs.declared.outcome.Item.{Item}
use Rattle.rdt_types.specs.declared.outcome.Item.TheVariants as item
use Rattle.txn_trees.specs.declared.word.WriteWord.{WriteWord}
use Rattle.txn_trees.specs.declared.word.WriteWord.TheVariants as write_word
use Rattle.txn_lang.specs.Items.{int_in, text_in, write_of, write_with, pair_write, text_write, counter_write, clear_of}
use Rattle.txn_lang.proofs.Sizes.{IsSmall, AllSmall, small_text}
use Rattle.record_code.specs.Forms.{IsShort, HasShortTexts}
use Rattle.record_code.proofs.LeftDeltas.{IsShortWrite}

-- a write that may be there is short
abbrev pub IsShortMaybe : Option WriteOp → Type 0
IsShortMaybe None = Unit {0}
IsShortMaybe (Some w) = IsShortWrite w

-- the writes of a counter have no text
counter_short : (word : WriteWord) (n : ℤ) → IsShortMaybe (counter_write word n)
counter_short write_word.Put n = tt
counter_short write_word.Add n = tt
counter_short _ n = tt

-- kind by kind: a word that takes a text writes that one alone
text_short : (k : Kind) (word : WriteWord) (x : Bytes) → IsShort x → IsShortMaybe (text_write k word x)
text_short kind.Set write_word.Add x short = short
text_short kind.Set write_word.Remove x short = short
text_short kind.Hash write_word.Remove x short = short
text_short kind.List write_word.Push x short = short
text_short kind.List write_word.Remove x short = short
text_short _ _ x short = tt

-- a clear has no text
clear_short : (k : Kind) → IsShortMaybe (clear_of k)
clear_short kind.Set = tt
clear_short kind.Hash = tt
clear_short kind.List = tt
clear_short _ = tt

-- a hash alone takes two arguments
pair_short : (k : Kind) (f t : Bytes) → IsShort f → IsShort t → IsShortMaybe (pair_write k f t)
pair_short kind.Hash f t first second = (first, second)
pair_short _ f t first second = tt

-- kind by kind: what is written is the argument's text, or has none
one_short : (k : Kind) (word : WriteWord) (i : Item) → IsSmall i → IsShortMaybe (write_with k word i)
one_short kind.Bool word i small = tt
one_short kind.Counter word i small = counter_short word (int_in i)
one_short kind.Text word i small = small_text i small
one_short kind.Set word i small = text_short kind.Set word (text_in i) (small_text i small)
one_short kind.Hash word i small = text_short kind.Hash word (text_in i) (small_text i small)
one_short kind.List word i small = text_short kind.List word (text_in i) (small_text i small)
one_short kind.Peak word i small = tt

-- by the number of arguments: with none it clears, with one it writes that one, and with two it is a hash's
pub write_short : (k : Kind) (word : WriteWord) (is : List Item) → AllSmall is → IsShortMaybe (write_of k word is)
write_short k word [] all = clear_short k
write_short k word (i ∷ []) all = one_short k word i all.0
write_short k word (i ∷ j ∷ is) all = pair_short k (text_in i) (text_in j) (small_text i all.0) (small_text j all.1.0)

-- a small item has short texts
pub small_emitted : (i : Item) → IsSmall i → HasShortTexts i
small_emitted (item.Text t) small = small
small_emitted (item.Texts ts) small = small
small_emitted _ small = tt
