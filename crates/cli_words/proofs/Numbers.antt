-- The number that a word is read as is the one whose decimal form it is.
use Rattle.std.proofs.Common.{◌≡◌, ◌≢◌, ◌<◌, ◌≤◌, ◌^◌, ℕ, zero, suc, Bool, true, false, not, ◌&&◌, ◌||◌, cond, [], ◌∷◌, length}
use Rattle.std.proofs.Common.{get_or, refl, ap, sym, ◌∙◌, arith}
use Rattle.std.specs.Prelude.{Option, Some, None, Result, Ok, Err, nat_eq, nat_le, nat_lt}
use Rattle.std.proofs.lemmas.Bool.{ltb-true, leb-true, lt-ltb, le-leb, eqb-false, ne_eqb}
use Rattle.std.proofs.lemmas.Str.Parse.{IsNumeralModel, numerals_by_value, tells_all_ascii_digits, parse_plain}
use Rattle.std.proofs.lemmas.Fmt.{digits_decimal, digits_value-decimal, decimal-digits_value, decimal_digit, first_decimal, decimal_nonempty}
use Rattle.std.specs.Fmt.{decimal}
use Rattle.std.specs.Str.{all_ascii_digits}
use Rattle.std.specs.Str.Parse.{digits_value, ParsesUnsigned}
use Rattle.std.specs.Result.{OkIff, result_ok}
use Rattle.cli_words.specs.Forms.{Word, IsNumber}
use Rattle.cli_words.specs.code.Reading.{is_led, small_number, if_within, number_within}

-- digits are worth what std says of numerals
own : IsNumeralModel (λ ds. all_ascii_digits ds ≡ true) (digits_value 10)
own = numerals_by_value _ tells_all_ascii_digits

-- with nothing in front there is no plus
no_plus : (word : Word) → is_led word ≡ false → get_or word 0 0 ≢ 43
no_plus [] e h = absurd (omega (arith, h))
no_plus (b ∷ []) e h = eqb-false b 43 e h
no_plus (b ∷ c ∷ word) e h = absurd (cc)

-- what is read of digits, by the tests on them
abbrev choice : (led full all few : Bool) (v : ℕ) → Option ℕ
choice led full all few v = cond ((not led && full && all) && few) (Some v) None

-- digits that pass all tests are chosen: where one fails a premise fails too
chosen : (led full all few : Bool) (v : ℕ) → led ≡ false → full ≡ true → all ≡ true → few ≡ true → choice led full all few v ≡ Some v
chosen false true true true v a b c d = refl
chosen true full all few v a b c d = absurd (cc)
chosen false false all few v a b c d = absurd (cc)
chosen false true false few v a b c d = absurd (cc)
chosen false true true false v a b c d = absurd (cc)

-- where they don't all hold nothing is
not_chosen : (led full all few : Bool) (v : ℕ) → (full ≡ true → all ≡ true → few ≡ true → ⊥) → choice led full all few v ≡ None
not_chosen true full all few v h = refl
not_chosen false false all few v h = refl
not_chosen false true false few v h = refl
not_chosen false true true false v h = refl
not_chosen false true true true v h = absurd (h refl refl refl)

-- what std's `parse` gives is that number
parsed : {E : Type 0} (word : Word) (r : Result ℕ E) → is_led word ≡ false
    → OkIff r ((all_ascii_digits word ≡ true) × (0 < length word) × (digits_value 10 word < 2 ^ 64)) (digits_value 10 word)
    → result_ok r ≡ small_number word
parsed word (Ok n) e h =
    ap Some h.1 ∙ sym (chosen (is_led word) (nat_lt 0 (length word)) (all_ascii_digits word) (nat_lt (digits_value 10 word) (2 ^ 64)) (digits_value 10 word)
    e (lt-ltb 0 (length word) h.0.1) h.0.0 (lt-ltb (digits_value 10 word) (2 ^ 64) h.0.2))
parsed word (Err x) e h =
    sym (not_chosen (is_led word) (nat_lt 0 (length word)) (all_ascii_digits word) (nat_lt (digits_value 10 word) (2 ^ 64)) (digits_value 10 word)
    (λ full all few. h (all, ltb-true 0 (length word) full, ltb-true (digits_value 10 word) (2 ^ 64) few)))

-- that holds of what `parse` ensures, since there is no plus in front
pub parsed-is : {E : Type 0} (word : Word) (r : Result ℕ E) → is_led word ≡ false → ParsesUnsigned 64 10 word r → result_ok r ≡ small_number word
parsed-is word r e h = parsed word r e (parse_plain own 64 word r h (no_plus word e))

-- ---- the number within limits is the one whose decimal form the word is

-- digits with nothing in front are the decimal form of what they are worth
plain_decimal : (word : Word) → is_led word ≡ false → 0 < length word → all_ascii_digits word ≡ true
    → digits_value 10 word < 2 ^ 64 → decimal (digits_value 10 word) ≡ word
plain_decimal word e some all small = decimal-digits_value own word all some (alone word e) small
  where
    alone : (w : Word) → is_led w ≡ false → get_or w 0 0 ≡ 48 → length w ≡ 1
    alone [] e z = absurd (omega (arith, z))
    alone (b ∷ []) e z = refl
    alone (b ∷ c ∷ w) e z = absurd (eqb-false b 48 (led_second (nat_eq b 43) (nat_eq b 48) e) z)
      where
        led_second : (p q : Bool) → p || q ≡ false → q ≡ false
        led_second true q e = absurd (cc)
        led_second false q e = e

-- what was chosen passed the tests
when_chosen : (led full all few : Bool) (v n : ℕ) → choice led full all few v ≡ Some n
    → (led ≡ false) × (full ≡ true) × (all ≡ true) × (few ≡ true) × (v ≡ n)
when_chosen true full all few v n e = absurd (cc)
when_chosen false false all few v n e = absurd (cc)
when_chosen false true false few v n e = absurd (cc)
when_chosen false true true false v n e = absurd (cc)
when_chosen false true true true v n e = (refl, refl, refl, refl, cc)

-- what is within limits was there, and is
within : (least most m n : ℕ) (low high : Bool) → cond (low && high) (Some m) None ≡ Some n → (low ≡ true) × (high ≡ true) × (m ≡ n)
within least most m n true true e = (refl, refl, cc)
within least most m n true false e = absurd (cc)
within least most m n false high e = absurd (cc)

-- a number that is within limits was there
small_within : (least most : ℕ) (o : Option ℕ) (n : ℕ) → if_within least most o ≡ Some n → (o ≡ Some n) × (least ≤ n) × (n ≤ most)
small_within least most None n e = absurd (cc)
small_within least most (Some m) n e =
    let k = within least most m n (nat_le least m) (nat_le m most) e in
    (ap Some k.2, omega (arith, leb-true least m k.0, k.2), omega (arith, leb-true m most k.1, k.2))

-- digits that passed the tests are the decimal form of what they are worth
pub number-sound : (least most : ℕ) (word : Word) (n : ℕ) → number_within least most word ≡ Some n → IsNumber least most word n
number-sound least most word n e =
    let k = small_within least most (small_number word) n e in
    let c = when_chosen (is_led word) (nat_lt 0 (length word)) (all_ascii_digits word) (nat_lt (digits_value 10 word) (2 ^ 64)) (digits_value 10 word) n k.0 in
    let few : digits_value 10 word < 2 ^ 64 = ltb-true (digits_value 10 word) (2 ^ 64) c.3 in
    (sym (plain_decimal word c.0 (ltb-true 0 (length word) c.1) c.2 (omega (arith, few))) ∙ ap decimal c.4, k.1, k.2)

-- nothing stands in front of a first digit that is no zero
not_led : (w : Word) → 48 < get_or w 0 0 → is_led w ≡ false
not_led [] h = absurd (omega (arith, h))
not_led (b ∷ []) h = ne_eqb b 43 (λ e. omega (arith, h, e))
not_led (b ∷ c ∷ w) h = neither (nat_eq b 43) (nat_eq b 48) (ne_eqb b 43 (λ e. omega (arith, h, e))) (ne_eqb b 48 (λ e. omega (arith, h, e)))
  where
    neither : (p q : Bool) → p ≡ false → q ≡ false → p || q ≡ false
    neither false false d e = refl
    neither true q d e = absurd (cc)
    neither false true d e = absurd (cc)

-- 0 stands alone, and the form of any other number begins with a digit above 0
decimal-not_led : (n : ℕ) → n < 2 ^ 64 → is_led (decimal n) ≡ false
decimal-not_led zero small = ap is_led (decimal_digit 0 (omega arith))
decimal-not_led (suc n) small = not_led (decimal (suc n)) (first_decimal (suc n) (omega arith) small)

-- the number whose decimal form it is, is read
decimal-small : (n : ℕ) → n < 2 ^ 64 → small_number (decimal n) ≡ Some n
decimal-small n small =
    let long : n < 2 ^ 64 = omega (arith, small) in
    let worth : digits_value 10 (decimal n) ≡ n = digits_value-decimal own n long in
    chosen (is_led (decimal n)) (nat_lt 0 (length (decimal n))) (all_ascii_digits (decimal n)) (nat_lt (digits_value 10 (decimal n)) (2 ^ 64))
    (digits_value 10 (decimal n))
    (decimal-not_led n long) (lt-ltb 0 (length (decimal n)) (decimal_nonempty n long)) (digits_decimal own n long)
    (lt-ltb (digits_value 10 (decimal n)) (2 ^ 64) (omega (arith, worth, small)))
    ∙ ap Some worth

-- so where it is within the limits, it is found
pub number-complete : (least most : ℕ) (word : Word) (n : ℕ) → most < 2 ^ 64 → IsNumber least most word n → number_within least most word ≡ Some n
number-complete least most word n small h =
    ap (λ w. if_within least most (small_number w)) h.0
    ∙ ap (if_within least most) (decimal-small n (omega (arith, small, h.2)))
    ∙ inside (nat_le least n) (nat_le n most) (le-leb least n h.1) (le-leb n most h.2)
  where
    inside : (low high : Bool) → low ≡ true → high ≡ true → cond (low && high) (Some n) None ≡ Some n
    inside true true a b = refl
    inside false high a b = absurd (cc)
    inside true false a b = absurd (cc)
