-- What expressions make is within the limits, so what a read asks for is short.
use Rattle.std.proofs.Common.{◌≡◌, ℕ, zero, suc, ◌+◌, ◌-◌, ◌≤◌, ◌%◌, ◌/◌, ◌==◌, ℤ, pos, negsuc, Bool, true, false, nat_lt, ◌||◌, cond, List, [], ◌∷◌}
use Rattle.std.proofs.Common.{length, fold, Option, Some, None, unwrap_or, refl, lit≤, arith}
use Rattle.std.specs.List.{AllByRecursion}
use Rattle.std.specs.Fmt.{digits, digits_onto, digit_glyph, decimal, signed_decimal}
use Rattle.std.specs.Ordering.{eq_by_cmp}
use Rattle.std.proofs.lemmas.Bool.{ltb-false}
use Rattle.plain_data.specs.Texts.{Bytes, text_cmp}
use Rattle.rdt_types.specs.declared.address.Kind.{Kind}
use Rattle.rdt_types.specs.declared.address.Kind.TheVariants as kind
use Rattle.rdt_types.specs.declared.address.Address.{Address}
use Rattle.rdt_types.specs.declared.outcome.Item.{Item}
use Rattle.rdt_types.specs.declared.outcome.Item.TheVariants as item
use Rattle.conflict_table.specs.declared.read.ReadOp.{ReadOp}
use Rattle.conflict_table.specs.declared.read.ReadOp.TheVariants as read
use Rattle.txn_trees.specs.declared.word.ReadWord.{ReadWord}
use Rattle.txn_trees.specs.declared.word.ReadWord.TheVariants as read_word
use Rattle.txn_lang.specs.declared.limits.TheConstants.{TEXT_LIMIT, TEXTS_LIMIT}
use Rattle.txn_lang.specs.Bindings.{later, bound}
use Rattle.txn_lang.specs.Items.{Names, named, text_in, texts_in, is_big, exceed, first_text, read_of}
use Rattle.txn_lang.specs.Short.{IsShortAddress}

-- a text that is no longer than texts may be
abbrev pub IsShortText : List ℕ → Type 0
IsShortText text = length text ≤ TEXT_LIMIT

-- a text with nothing in it is short
pub no_text_short : IsShortText []
no_text_short = lit≤ tt

-- an item none of whose texts is longer
abbrev pub IsSmall : Item → Type 0
IsSmall (item.Text t) = IsShortText t
IsSmall (item.Texts ts) = AllByRecursion IsShortText ts
IsSmall _ = Unit {0}

-- items that are all small
abbrev pub AllSmall : List Item → Type 0
AllSmall is = AllByRecursion IsSmall is

-- names that all stand for small items
abbrev pub AreSmall : Names → Type 0
AreSmall names = AllByRecursion (λ x. IsSmall x.1) names

-- ---- items

-- the text of a small item is short, and any other item has none
pub small_text : (i : Item) → IsSmall i → IsShortText (text_in i)
small_text (item.Text t) small = small
small_text _ small = no_text_short

-- the texts of a small item are short, and any other item has none
pub small_texts : (i : Item) → IsSmall i → AllByRecursion IsShortText (texts_in i)
small_texts (item.Texts ts) small = small
small_texts _ small = tt

-- what fails the test for longer texts is short
not_longer : (t : Bytes) → nat_lt TEXT_LIMIT (length t) ≡ false → IsShortText t
not_longer t e = ltb-false TEXT_LIMIT (length t) e

-- text by text: none is longer alone, and the others don't exceed the room that is left
not_exceeding : (room : ℕ) (ts : List Bytes) → exceed room ts ≡ false → AllByRecursion IsShortText ts
not_exceeding room [] e = tt
not_exceeding room (t ∷ ts) e = by (nat_lt TEXT_LIMIT (length t)) (nat_lt room (length t + 1)) refl e (λ rest. not_exceeding (room - (length t + 1)) ts rest)
  where
    by : (long large : Bool) → nat_lt TEXT_LIMIT (length t) ≡ long → cond (long || large) true (exceed (room - (length t + 1)) ts) ≡ false
        → (exceed (room - (length t + 1)) ts ≡ false → AllByRecursion IsShortText ts) → AllByRecursion IsShortText (t ∷ ts)
    by true large is e rest = absurd (cc)
    by false true is e rest = absurd (cc)
    by false false is e rest = (not_longer t is, rest e)

-- what isn't big is small
pub small_sized : (i : Item) → is_big i ≡ false → IsSmall i
small_sized (item.Text t) e = not_longer t e
small_sized (item.Texts ts) e = not_exceeding TEXTS_LIMIT ts e
small_sized _ e = tt

-- no number has more digits than 64
length-digits_onto : (k base : ℕ) (upper : Bool) (n : ℕ) (rest : List ℕ) → length (digits_onto k base upper n rest) ≤ k + length rest
length-digits_onto zero base upper n rest = omega arith
length-digits_onto (suc k) base upper n rest = by (n / base == 0) (length-digits_onto k base upper (n / base) (digit_glyph upper (n % base) ∷ rest))
  where
    by : (last : Bool) → length (digits_onto k base upper (n / base) (digit_glyph upper (n % base) ∷ rest)) ≤ k + length (digit_glyph upper (n % base) ∷ rest)
        → length (cond last (digit_glyph upper (n % base) ∷ rest) (digits_onto k base upper (n / base) (digit_glyph upper (n % base) ∷ rest)))
        ≤ suc k + length rest
    by true h = omega arith
    by false h = omega (arith, h)

-- a decimal is made of 64 digits at most
length-decimal : (n : ℕ) → length (decimal n) ≤ 64
unfolding digits
length-decimal n = length-digits_onto 64 10 false n []

-- 64 digits and a sign are short
pub small_decimal : (n : ℤ) → IsShortText (signed_decimal n)
small_decimal (pos n) = omega (arith, length-decimal n)
small_decimal (negsuc n) = omega (arith, length-decimal (suc n))

-- ---- names

-- an item that may be there is small
abbrev IsSmallMaybe : Option Item → Type 0
IsSmallMaybe None = Unit {0}
IsSmallMaybe (Some i) = IsSmall i

-- name by name: what is found is what was found before or an item of the names, and all of them are small
small_found : (names : Names) (x : Bytes) (found : Option Item) → IsSmallMaybe found → AreSmall names → IsSmallMaybe (fold (later x) found names)
small_found [] x found small all = small
small_found (n ∷ names) x found small all = small_found names x (later x found n) (by (eq_by_cmp text_cmp x n.0)) all.1
  where
    by : (b : Bool) → IsSmallMaybe (cond b (Some n.1) found)
    by true = all.0
    by false = small

-- a name stands for one of the items that are bound, or for 0
pub small_named : (names : Names) (x : Bytes) → AreSmall names → IsSmall (named names x)
small_named names x all = by (bound names x) (small_found names x None tt all)
  where
    by : (found : Option Item) → IsSmallMaybe found → IsSmall (unwrap_or found (item.Int (pos 0)))
    by None small = tt
    by (Some i) small = small

-- ---- reads

-- the element or field that a read asks for, or none
abbrev pub text_asked : ReadOp → List ℕ
text_asked (read.SetHas x) = x
text_asked (read.HashHas f) = f
text_asked (read.HashGet f) = f
text_asked _ = []

-- a read at an address, of short texts both
abbrev pub IsShortRead : Address → ReadOp → Type 0
IsShortRead a r = IsShortAddress a × IsShortText (text_asked r)

-- the first item is small, and where there is none its text has nothing in it
first_short : (is : List Item) → AllSmall is → IsShortText (first_text is)
first_short [] all = no_text_short
first_short (i ∷ is) all = small_text i all.0

-- by kind and word: a read asks for the text of its first argument, or for none
pub read_short : (k : Kind) (word : ReadWord) (is : List Item) → AllSmall is → IsShortText (text_asked (read_of k word is))
read_short kind.Set read_word.Has is all = first_short is all
read_short kind.Hash read_word.Has is all = first_short is all
read_short kind.Hash read_word.Get is all = first_short is all
read_short kind.List read_word.At is all = no_text_short
read_short kind.Peak read_word.Over is all = no_text_short
read_short _ _ is all = no_text_short
