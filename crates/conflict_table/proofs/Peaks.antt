-- Raises: which numbers the greater of two is above.
use Rattle.std.proofs.Common.{◌≡◌, ℤ, Bool, true, false, ◌||◌, int_lt, refl, arith}
use Rattle.std.specs.Int.{int_max}
use Rattle.std.proofs.lemmas.Int.{ints, clamps}

-- the greater of two numbers is above a number where one of the two is
pub over-greater : (n p m : ℤ) → int_lt n (int_max p m) ≡ (int_lt n p || int_lt n m)
over-greater n p m = by (int_lt n (int_max p m)) (int_lt n p) (int_lt n m) refl refl refl
  where
    by : (a b c : Bool) → int_lt n (int_max p m) ≡ a → int_lt n p ≡ b → int_lt n m ≡ c → a ≡ (b || c)
    by true true c greater first second = refl
    by true false true greater first second = refl
    by true false false greater first second = absurd (omega (arith, ints, clamps))
    by false true c greater first second = absurd (omega (arith, ints, clamps))
    by false false true greater first second = absurd (omega (arith, ints, clamps))
    by false false false greater first second = refl

-- beside a number that isn't above it, a number is the greater one
pub greater-stays : (p m : ℤ) → int_lt p m ≡ false → int_max p m ≡ p
greater-stays p m low = omega (arith, ints, clamps)

-- and beside one that is, it isn't
pub greater-changes : (n m : ℤ) → int_lt n m ≡ true → int_max n m ≡ n → ⊥
greater-changes n m high same = omega (arith, ints, clamps)

-- no number is above itself
pub not_over-itself : (n : ℤ) → int_lt n n ≡ false
not_over-itself n = by (int_lt n n) refl
  where
    by : (b : Bool) → int_lt n n ≡ b → b ≡ false
    by true over = absurd (omega (arith, ints))
    by false over = refl
