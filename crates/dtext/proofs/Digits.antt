-- What runs of digits are worth, and that they are the decimal form of it.
use Rattle.std.proofs.Common.{◌≡◌, ◌<◌, ◌≤◌, ◌+◌, ◌*◌, ◌/◌, ◌%◌, ◌^◌, ℕ, true, [], ◌∷◌, ◌++◌, get_or, refl, ap, sym}
use Rattle.std.proofs.Common.{◌∙◌, subst, arith, nat_le, append-nil, append_assoc}
use Rattle.std.proofs.lemmas.Bool.Decides.{nat_tests}
use Rattle.std.specs.Fmt.{decimal}
use Rattle.std.proofs.lemmas.Fmt.{decimal_step, decimal_digit, decimal_is_IsNumeral, first_decimal}
use Rattle.std.specs.Char.{digit_value}
use Rattle.std.specs.Str.Parse.{AllDigits, digits_value_after, digits_value}
use Rattle.std.proofs.lemmas.Str.{digit_value_digit}
use Rattle.std.proofs.lemmas.Str.Parse.{digit_from_value}
use Rattle.predictive_parsing.specs.Digits.{with_digit}
use Rattle.predictive_parsing.proofs.Basic.{both}
use Rattle.plain_data.specs.Texts.{Bytes}
use Rattle.dtext.specs.Characters.{is_digit}

-- a digit's value, and what is a digit
pub digit_worth : (b : ℕ) → is_digit b ≡ true → digit_value b + 48 ≡ b
digit_worth b e = digit_value_digit b (grind (arith, nat_tests, both (nat_le 48 b) (nat_le b 57) e))

-- a digit is worth less than 10
pub digit_below : (b : ℕ) → is_digit b ≡ true → digit_value b < 10
digit_below b e = let k = both (nat_le 48 b) (nat_le b 57) e in let l : b ≤ 57 = grind (arith, nat_tests, k) in omega (arith, digit_worth b e)

-- what is worth less than 10 is a digit
pub digit_of : (b : ℕ) → digit_value b < 10 → is_digit b ≡ true
digit_of b h = let k = digit_from_value b h in grind (arith, nat_tests, k)

-- one digit more, as the reader counts it
pub with_digit_worth : (value b : ℕ) → is_digit b ≡ true → with_digit value b ≡ value * 10 + digit_value b
with_digit_worth value b e = omega (arith, digit_worth b e)

-- the digits behind others
pub AllDigits-behind : (xs ys : Bytes) → AllDigits 10 (xs ++ ys) → AllDigits 10 ys
AllDigits-behind [] ys d = d
AllDigits-behind (x ∷ xs) ys d = AllDigits-behind xs ys d.1

-- digits are worth what the later ones make of the earlier ones
pub digits_value_after-append : (n : ℕ) (xs ys : Bytes) → digits_value_after 10 n (xs ++ ys) ≡ digits_value_after 10 (digits_value_after 10 n xs) ys
digits_value_after-append n [] ys = refl
digits_value_after-append n (x ∷ xs) ys = digits_value_after-append (n * 10 + digit_value x) xs ys

-- more digits are worth no less
pub digits_value_after-ge : (n : ℕ) (ds : Bytes) → n ≤ digits_value_after 10 n ds
digits_value_after-ge n [] = omega arith
digits_value_after-ge n (d ∷ ds) = omega (arith, digits_value_after-ge (n * 10 + digit_value d) ds)

-- the decimal form of a number with one digit more
decimal_more : (n b : ℕ) → 0 < n → digit_value b < 10 → n * 10 + digit_value b < 2 ^ 64 → decimal (n * 10 + digit_value b) ≡ decimal n ++ (b ∷ [])
decimal_more n b some d small =
    let m : ℕ = n * 10 + digit_value b in
    let k = digit_worth b (digit_of b d) in
    let front : m / 10 ≡ n = omega arith in
    let end : 48 + m % 10 ≡ b = omega arith in
    decimal_step m (omega arith) small ∙ (λ i. decimal (front i) ++ (end i ∷ []))

-- the decimal form of a number with more digits
pub decimal-value_after : (n : ℕ) (ds : Bytes) → 0 < n → AllDigits 10 ds → digits_value_after 10 n ds < 2 ^ 64
    → decimal (digits_value_after 10 n ds) ≡ decimal n ++ ds
decimal-value_after n [] some d small = sym (append-nil (decimal n))
decimal-value_after n (b ∷ ds) some d small =
    decimal-value_after (n * 10 + digit_value b) ds (omega arith) d.1 small
    ∙ ap (λ x. x ++ ds) (decimal_more n b some d.0 (omega (arith, digits_value_after-ge (n * 10 + digit_value b) ds)))
    ∙ append_assoc (decimal n) (b ∷ []) ds

-- what the decimal form of a number above 0 is made of: a digit of 1 to 9, and more digits
pub record Decimal (n : ℕ) : Type 0 where
  pub first : ℕ
  pub rest : Bytes
  pub whole : decimal n ≡ first ∷ rest
  pub digit : digit_value first < 10
  pub not_zero : 48 < first
  pub others : AllDigits 10 rest
  pub value : digits_value_after 10 (digit_value first) rest ≡ n

-- by what the decimal form is, which has a byte at least
decimal_by : (n : ℕ) (ds : Bytes) → decimal n ≡ ds → 0 < n → n < 2 ^ 64 → Decimal n
decimal_by n [] e some small = absurd (let k = first_decimal n some small in let l : get_or (decimal n) 0 0 ≡ 0 = ap (λ xs. get_or xs 0 0) e in omega arith)
decimal_by n (b ∷ ds) e some small =
    let k = decimal_is_IsNumeral n small in
    let all : AllDigits 10 (b ∷ ds) = subst (AllDigits 10) e k.0.1 in
    let worth : digits_value 10 (b ∷ ds) ≡ n = ap (digits_value 10) (sym e) ∙ k.1 in
    let l : get_or (decimal n) 0 0 ≡ b = ap (λ xs. get_or xs 0 0) e in
    let front : digit_value b ≡ 0 * 10 + digit_value b = omega arith in
    record {
      first = b;
      rest = ds;
      whole = e;
      digit = all.0;
      not_zero = omega (arith, first_decimal n some small);
      others = all.1;
      value = ap (λ v. digits_value_after 10 v ds) front ∙ worth;
    }

-- each number above 0 has such a form
pub decimal_parts : (n : ℕ) → 0 < n → n < 2 ^ 64 → Decimal n
decimal_parts n some small = decimal_by n (decimal n) refl some small

-- that of 0 is its one digit
pub decimal_zero : decimal 0 ≡ 48 ∷ []
decimal_zero = decimal_digit 0 (omega arith)

-- a leading digit alone is its value
pub decimal_leading : (b : ℕ) → digit_value b < 10 → decimal (digit_value b) ≡ b ∷ []
decimal_leading b h = let k = digit_worth b (digit_of b h) in decimal_digit (digit_value b) h ∙ ap (λ c. c ∷ []) (omega arith)
