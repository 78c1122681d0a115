-- The limits, by their numbers.
use Rattle.std.specs.Prelude.{◌≡◌, refl}
use Rattle.dtext.specs.declared.number.TheConstants.{MOST, LEAST}

MOST-is : MOST ≡ 9223372036854775807
MOST-is = refl

LEAST-is : LEAST ≡ 9223372036854775808
LEAST-is = refl
