-- The numbers of the limits, so that none changes unseen.
use Rattle.std.specs.Prelude.{◌≡◌, refl}
use Rattle.journal_core.specs.declared.limits.TheConstants.{LONGEST_BODY, FIRST_UNTOLD_CLIENT, HOLD_LASTS}

LONGEST_BODY-is : LONGEST_BODY ≡ 4096
LONGEST_BODY-is = refl

FIRST_UNTOLD_CLIENT-is : FIRST_UNTOLD_CLIENT ≡ 4000000000
FIRST_UNTOLD_CLIENT-is = refl

HOLD_LASTS-is : HOLD_LASTS ≡ 64
HOLD_LASTS-is = refl
