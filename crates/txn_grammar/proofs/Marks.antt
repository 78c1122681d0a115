-- Marks of two bytes are looked for by their second byte first.
use Rattle.std.proofs.Common.{◌≡◌, ◌≢◌, ℕ, ◌==◌, ◌<◌, ◌&&◌, Bool, true, false, List, [], ◌∷◌, None, nat_lt, length, slice_index_or, refl, arith}
use Rattle.std.specs.Str.{bytes_eq}
use Rattle.std.proofs.lemmas.Slice.Eq.{bytes_eq-Decides}
use Rattle.std.proofs.lemmas.Bool.Decides.{Decides-eqb, Decides-ltb}
use Rattle.std.proofs.lemmas.Bool.{false_from_ne_true, false≢true}
use Rattle.txn_grammar.specs.declared.symbol.Symbol.{Symbol}
use Rattle.txn_grammar.specs.Characters.{Text}
use Rattle.txn_grammar.specs.Spellings.{mark, marks, spelled_in}
use Rattle.txn_grammar.specs.Lexer.{long_mark}

-- whether a text of two bytes ends in `=`, which is 61
abbrev ends_in_equal : Text → Bool
ends_in_equal (a ∷ b ∷ []) = b == 61
ends_in_equal other = true

-- each row's text does
abbrev each_does : List (Text × Symbol) → Bool
each_does [] = true
each_does (row ∷ rows) = ends_in_equal row.0 && each_does rows

-- so another text of two bytes is in no such row
none_spelled : (rows : List (Text × Symbol)) (z : Text) → each_does rows ≡ true → ends_in_equal z ≡ false → spelled_in rows z ≡ None
none_spelled [] z each other = refl
none_spelled (row ∷ rows) z each other = by (ends_in_equal row.0) refl (bytes_eq row.0 z) refl each (λ h. none_spelled rows z h other)
  where
    by : (e : Bool) → ends_in_equal row.0 ≡ e → (t : Bool) → bytes_eq row.0 z ≡ t → e && each_does rows ≡ true
        → (each_does rows ≡ true → spelled_in rows z ≡ None) → spelled_in (row ∷ rows) z ≡ None
    by false is t test h rest = absurd (false≢true h)
    by true is true test h rest = absurd (let same = (bytes_eq-Decides row.0 z).0 test in cc)
    by true is false test h rest = let none = rest h in cc

-- no mark of two bytes ends in another byte
pub no_long_mark : (a b : ℕ) → (b == 61) ≡ false → mark (a ∷ b ∷ []) ≡ None
unfolding mark
no_long_mark a b other = none_spelled marks (a ∷ b ∷ []) refl other

-- a text of two bytes and more isn't shorter
two_at_least : (a b : ℕ) (z : Text) → nat_lt (length (a ∷ b ∷ z)) 2 ≡ false
two_at_least a b z =
    false_from_ne_true (nat_lt (length (a ∷ b ∷ z)) 2) (λ short. let less = (Decides-ltb (length (a ∷ b ∷ z)) 2).0 short in omega (arith, less))

-- so a text whose second byte is another begins with none
pub no_mark_there : (z : Text) → slice_index_or z 1 0 ≢ 61 → None ≡ long_mark z
no_mark_there [] other = refl
no_mark_there (a ∷ []) other = refl
no_mark_there (a ∷ b ∷ z) other =
    let long = two_at_least a b z in
    let none = no_long_mark a b (false_from_ne_true (b == 61) (λ same. other ((Decides-eqb b 61).0 same))) in
    cc

-- nor does one of a single byte
pub no_mark_so_short : (z : Text) → length z < 2 → None ≡ long_mark z
no_mark_so_short [] short = refl
no_mark_so_short (a ∷ []) short = refl
no_mark_so_short (a ∷ b ∷ z) short = absurd (omega arith)
