-- The reader of texts reads what the rule derives.
use Rattle.std.proofs.Common.{◌≡◌, ◌↔◌, ◌<◌, ◌≤◌, ◌-◌, ℕ, Bool, true, false, not, ◌&&◌, Some, None, Ok, refl, ap, ◌∙◌, inl, inr, arith, cond, nat_eq, nat_le}
use Rattle.std.proofs.lemmas.Bool.Decides.{nat_tests}
use Rattle.predictive_parsing.specs.Reading.{next, one}
use Rattle.predictive_parsing.specs.Rules.{One, Then, Pure, Many}
use Rattle.predictive_parsing.specs.Fits.{Fits, any, unless}
use Rattle.predictive_parsing.specs.Bytes.{IsByte, Byte, sees}
use Rattle.predictive_parsing.proofs.Basic.{bool_cases, both, not_true, sound}
use Rattle.predictive_parsing.proofs.Combined.{one_fits, followed, either_fits, seen, onwards}
use Rattle.predictive_parsing.proofs.Lists.{many_fits}
use Rattle.predictive_parsing.proofs.Words.{byte_fits, byte_taken, byte_begins, byte_next}
use Rattle.plain_data.specs.Texts.{Bytes}
use Rattle.dtext.specs.Characters.{is_digit}
use Rattle.dtext.specs.Spellings.{is_plain, plain, short, hex_value, hex_byte, Hexadecimal, Escape, Piece, TextRule}
use Rattle.dtext.specs.code.Reading.{inside, hexadecimal, escape, piece, pieces, text}

-- one hexadecimal digit
digit_fits : Fits IsByte (one hex_value) (One hex_value) any
digit_fits = one_fits IsByte hex_value 48 0 refl (omega arith)

-- `x` and two of them
hexadecimal_fits : Fits IsByte hexadecimal Hexadecimal any
unfolding hexadecimal
hexadecimal_fits = onwards IsByte (byte_fits 120 (omega arith)) (λ _. onwards IsByte digit_fits (λ high. seen IsByte (hex_byte high) digit_fits))

-- one byte behind a backslash
short_fits : Fits IsByte (one short) (One short) any
short_fits = one_fits IsByte short 110 10 refl (omega arith)

-- bytes that pass the test of equality are equal
equal : (b n : ℕ) → nat_eq b n ≡ true → b ≡ n
equal b n e = grind (arith, nat_tests)

-- a byte that is one number fails the test of being another
other_than : (b n m : ℕ) → (n ≡ m → ⊥) → b ≡ n → nat_eq b m ≡ false
other_than b n m apart e = grind (arith, nat_tests)

-- the `x` is no short escape
short_no_mark : (b a : ℕ) → short b ≡ Some a → nat_eq b 120 ≡ false
short_no_mark b a e = elim (bool_cases (nat_eq b 120)) [
  | inl h ↦ absurd (let k : short b ≡ None = ap short (equal b 120 h) in cc)
  | inr h ↦ h
]

-- the `x` tells the two escapes apart
escape_fits : Fits IsByte escape Escape any
unfolding escape
escape_fits =
    onwards IsByte (byte_fits 92 (omega arith))
    (λ _. either_fits IsByte (sees 120) hexadecimal (one short) Hexadecimal (One short) any hexadecimal_fits short_fits
    (λ ts us a r. byte_begins 120 ts r.middle r.value r.first)
    (λ ts us a r e. ap (λ xs. sees 120 (next xs)) r.first ∙ short_no_mark r.item a r.made))

-- what is taken as itself is plain
plain_passes : (b c : ℕ) → plain b ≡ Some c → is_plain b ≡ true
plain_passes b c e = at_test (is_plain b) e
  where
    at_test : (t : Bool) → cond t (Some b) None ≡ Some c → t ≡ true
    at_test true e = refl
    at_test false e = absurd (cc)

-- what a plain byte isn't
plain_parts : (b : ℕ) → is_plain b ≡ true → (nat_eq b 34 ≡ false) × (nat_eq b 92 ≡ false)
plain_parts b e =
    let k = both (nat_le 32 b && not (nat_eq b 127) && not (nat_eq b 34)) (not (nat_eq b 92)) e in
    let l = both (nat_le 32 b && not (nat_eq b 127)) (not (nat_eq b 34)) k.0 in
    (not_true (nat_eq b 34) l.1, not_true (nat_eq b 92) k.1)

-- it is neither a quote nor a backslash
plain_is : (ts us : Bytes) (a : ℕ) (r : One plain ts a us) → (nat_eq r.item 34 ≡ false) × (nat_eq r.item 92 ≡ false)
plain_is ts us a r = plain_parts r.item (plain_passes r.item a r.made)

-- a backslash tells escapes from plain bytes
piece_fits : Fits IsByte piece Piece any
unfolding piece
piece_fits = either_fits IsByte (sees 92) escape (one plain) Escape (One plain) any escape_fits (one_fits IsByte plain 97 97 refl (omega arith))
    (λ ts us a r. byte_begins 92 ts r.middle r.value r.first)
    (λ ts us a r e. ap (λ xs. sees 92 (next xs)) r.first ∙ (plain_is ts us a r).1)

-- no piece begins with a quote
piece_begins : (ts us : Bytes) (a : ℕ) → Piece ts a us → inside (next ts) ≡ true
piece_begins ts us a (inl r) = ap (λ xs. inside (next xs)) (byte_taken 92 ts r.middle r.value r.first)
piece_begins ts us a (inr r) = ap (λ xs. inside (next xs)) r.first ∙ ap not (plain_is ts us a r).0

-- any number of them
pieces_fits : Fits IsByte pieces (Many Piece) (unless inside any)
unfolding pieces
pieces_fits = many_fits IsByte inside piece Piece any piece_fits piece_begins refl (λ h e. refl)

-- the bytes of the text end at a quote
quote_ends : (us vs found a : Bytes) → Then (Byte 34) (λ _. Pure found) us a vs → unless inside any (next us) ≡ true
quote_ends us vs found a r = ap (λ xs. unless inside any (next xs)) (byte_taken 34 us r.middle r.value r.first)

-- texts in quotes
pub text_fits : Fits IsByte text TextRule any
unfolding text
text_fits = onwards IsByte (byte_fits 34 (omega arith)) (λ _. followed IsByte pieces_fits
    (λ found. seen IsByte (λ _. found) (byte_fits 34 (omega arith)))
    (λ found us vs a r e. quote_ends us vs found a r))

-- the first byte of a text is its quote
pub text_begins : (ts us a : Bytes) → TextRule ts a us → sees 34 (next ts) ≡ true
text_begins ts us a r = byte_begins 34 ts r.middle r.value r.first

-- a text is read where its rule derives it, and nothing else is
pub text_is_rule : (ts us a : Bytes) → (text ts ≡ Ok (a, us)) ↔ TextRule ts a us
text_is_rule ts us a = (λ e. sound text TextRule ts us a (text_fits.takes ts us a e), λ r. text_fits.reads ts us a r refl)

-- a text begins with a quote
pub text_next : (ts us a : Bytes) → TextRule ts a us → next ts ≡ Some 34
text_next ts us a r = byte_next 34 ts r.middle r.value r.first

-- a hexadecimal digit is below 16
pub hex_small : (b a : ℕ) → hex_value b ≡ Some a → a < 16
hex_small b a e = by_digit (is_digit b) (nat_le 97 b && nat_le b 102) refl refl e
  where
    by_digit : (d l : Bool) → is_digit b ≡ d → nat_le 97 b && nat_le b 102 ≡ l → cond d (Some (b - 48)) (cond l (Some (b - 87)) None) ≡ Some a → a < 16
    by_digit true l d h e = let k : b - 48 ≡ a = cc in let m : b ≤ 57 = grind (arith, nat_tests, d) in omega arith
    by_digit false true d h e = let k : b - 87 ≡ a = cc in let m : b ≤ 102 = grind (arith, nat_tests, h) in omega arith
    by_digit false false d h e = absurd (cc)
