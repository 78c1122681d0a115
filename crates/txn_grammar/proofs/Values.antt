-- The value of digits only grows as digits come.
use Rattle.std.proofs.Common.{◌≡◌, ℕ, ◌<◌, ◌≤◌, true, false, List, [], ◌∷◌, length, take, fold, refl, ap, sym, ◌∙◌, arith, nat_le, Some, None, pos, zero, suc}
use Rattle.std.proofs.lemmas.Bool.Decides.{nat_tests}
use Rattle.std.proofs.lemmas.List.{take_all}
use Rattle.dtext.specs.declared.number.TheConstants.{MOST}
use Rattle.txn_grammar.specs.Numbers.{with_digit, digits_value, small_value}

-- digit by digit: the value before is taken ten times, and the digit's worth is added
grows : (n : ℕ) (digits : List ℕ) → n ≤ fold with_digit n digits
grows n [] = omega arith
grows n (d ∷ digits) = let k = grows (with_digit n d) digits in omega arith

-- the value of the first digits is no larger than that of all
front_below : (n i : ℕ) (digits : List ℕ) → fold with_digit n (take i digits) ≤ fold with_digit n digits
front_below n zero digits = grows n digits
front_below n (suc i) [] = omega arith
front_below n (suc i) (d ∷ digits) = front_below (with_digit n d) i digits

-- where the first digits are too large already, all are
pub too_large : (digits : List ℕ) (i : ℕ) → MOST < fold with_digit 0 (take i digits) → small_value digits ≡ None
unfolding small_value
too_large digits i h =
    let k = front_below 0 i digits in
    let l : nat_le (digits_value digits) MOST ≡ false = grind (arith, nat_tests) in
    rw l refl

-- where all were gone through, the value is theirs
pub small : (digits : List ℕ) (i n : ℕ) → n ≡ fold with_digit 0 (take i digits) → length digits ≤ i → n ≤ MOST → small_value digits ≡ Some (pos n)
unfolding small_value
small digits i n e l h =
    let whole : take i digits ≡ digits = take_all i digits l in
    let same : digits_value digits ≡ n = sym (e ∙ ap (fold with_digit 0) whole) in
    let below : nat_le (digits_value digits) MOST ≡ true = grind (arith, nat_tests) in
    rw below (ap (λ m. Some (pos m)) same)
