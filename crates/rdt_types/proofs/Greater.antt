-- The greater of two numbers.
use Rattle.std.proofs.Common.{◌≡◌, ℤ, arith}
use Rattle.std.proofs.lemmas.Int.{ints, clamps}
use Rattle.std.specs.Int.{int_max}

-- of three numbers it is one which two are compared first
pub int_max-associates : (l m n : ℤ) → int_max (int_max l m) n ≡ int_max l (int_max m n)
int_max-associates l m n = omega (arith, ints, clamps)
