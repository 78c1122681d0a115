-- What the words of a kind read and write is of that kind.
use Rattle.std.proofs.Common.{◌≡◌, ℤ, pos, negsuc, Bool, true, false, not, ◌&&◌, nat_lt, List, [], ◌∷◌, length, Option, Some, None, refl, cond}
use Rattle.plain_data.specs.Texts.{Bytes}
use Rattle.rdt_types.specs.declared.address.Kind.{Kind}
use Rattle.rdt_types.specs.declared.address.Kind.TheVariants as kind
use Rattle.rdt_types.specs.declared.value.Value.{Value}
use Rattle.rdt_types.specs.declared.value.Value.TheVariants as value
use Rattle.rdt_types.specs.declared.operation.WriteOp.{WriteOp}
use Rattle.rdt_types.specs.declared.outcome.Item.{Item}
use Rattle.rdt_types.specs.Values.{kind_of, kind_written, list_in}
use Rattle.conflict_table.specs.declared.observation.Obs.TheVariants as obs
use Rattle.conflict_table.specs.declared.read.ReadOp.{ReadOp}
use Rattle.conflict_table.specs.Observing.{kind_observed}
use Rattle.conflict_table.specs.Reads.{observed_where, place_observed}
use Rattle.txn_trees.specs.declared.word.ReadWord.{ReadWord}
use Rattle.txn_trees.specs.declared.word.ReadWord.TheVariants as read_word
use Rattle.txn_trees.specs.declared.word.WriteWord.{WriteWord}
use Rattle.txn_trees.specs.declared.word.WriteWord.TheVariants as write_word
use Rattle.txn_lang.specs.Items.{int_in, text_in, first_int, read_of, write_of, write_with, pair_write, text_write, counter_write, clear_of}

-- the words of a kind make its writes
abbrev pub IsOfKind : Kind → Option WriteOp → Type 0
IsOfKind k None = Unit {0}
IsOfKind k (Some o) = kind_written o ≡ k

-- put and add write to a counter, and no other word writes
counter_fits : (word : WriteWord) (n : ℤ) → IsOfKind kind.Counter (counter_write word n)
counter_fits write_word.Put n = refl
counter_fits write_word.Add n = refl
counter_fits _ n = tt

-- kind by kind: each word that takes a text writes to its own kind, and no other word writes
text_fits : (k : Kind) (word : WriteWord) (x : Bytes) → IsOfKind k (text_write k word x)
text_fits kind.Set write_word.Add x = refl
text_fits kind.Set write_word.Remove x = refl
text_fits kind.Hash write_word.Remove x = refl
text_fits kind.List write_word.Push x = refl
text_fits kind.List write_word.Remove x = refl
text_fits _ _ x = tt

-- sets, hashes and lists are each cleared by a write of their own, and nothing else is
clear_fits : (k : Kind) → IsOfKind k (clear_of k)
clear_fits kind.Set = refl
clear_fits kind.Hash = refl
clear_fits kind.List = refl
clear_fits _ = tt

-- a hash alone takes two arguments
pair_fits : (k : Kind) (f t : Bytes) → IsOfKind k (pair_write k f t)
pair_fits kind.Hash f t = refl
pair_fits _ f t = tt

-- kind by kind: bools, counters, texts and peaks have writes of their own, and the others have those that take a text
one_fits : (k : Kind) (word : WriteWord) (i : Item) → IsOfKind k (write_with k word i)
one_fits kind.Bool word i = refl
one_fits kind.Counter word i = counter_fits word (int_in i)
one_fits kind.Text word i = refl
one_fits kind.Set word i = text_fits kind.Set word (text_in i)
one_fits kind.Hash word i = text_fits kind.Hash word (text_in i)
one_fits kind.List word i = text_fits kind.List word (text_in i)
one_fits kind.Peak word i = refl

-- by the number of arguments: with none it clears, with one it writes that one, and with two it is a hash's
pub write_fits : (k : Kind) (word : WriteWord) (is : List Item) → IsOfKind k (write_of k word is)
write_fits k word [] = clear_fits k
write_fits k word (i ∷ []) = one_fits k word i
write_fits k word (i ∷ j ∷ is) = pair_fits k (text_in i) (text_in j)

-- a read of values of a kind observes something of that kind
abbrev pub Suits : Kind → ReadOp → Type 0
Suits k r = (takes_out : Bool) (v : Value) → kind_of v ≡ k → kind_observed (observed_where r takes_out v) ≡ k

-- a place is observed alone or as the whole list, and either is an observation of a list
place_suits : (i : ℤ) (takes_out : Bool) (items : List Bytes) → kind_observed (place_observed i takes_out items) ≡ kind.List
place_suits (pos i) takes_out items = by (not takes_out && nat_lt i (length items))
  where
    by : (b : Bool) → kind_observed (cond b (obs.ListAt i) obs.ListAll) ≡ kind.List
    by true = refl
    by false = refl
place_suits (negsuc i) takes_out items = refl

-- the words of a kind make its reads
pub read_suits : (k : Kind) (word : ReadWord) (is : List Item) → Suits k (read_of k word is)
read_suits kind.Bool word is takes_out (value.Bool b) e = refl
read_suits kind.Counter word is takes_out (value.Counter n) e = refl
read_suits kind.Text word is takes_out (value.Text t) e = refl
read_suits kind.Set read_word.Has is takes_out v e = refl
read_suits kind.Set word is takes_out v e = refl
read_suits kind.Hash read_word.Has is takes_out v e = refl
read_suits kind.Hash read_word.Get is takes_out v e = refl
read_suits kind.Hash word is takes_out v e = refl
read_suits kind.List read_word.At is takes_out v e = place_suits (first_int is) takes_out (list_in v)
read_suits kind.List word is takes_out v e = refl
read_suits kind.Peak read_word.Over is takes_out v e = refl
read_suits kind.Peak word is takes_out (value.Peak n) e = refl
read_suits k word is takes_out v e = absurd (cc)
