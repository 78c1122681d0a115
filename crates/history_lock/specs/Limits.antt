-- The numbers of the limits, so that none changes unseen.
use Rattle.std.specs.Prelude.{◌≡◌, refl}
use Rattle.history_lock.specs.declared.limits.TheConstants.{MOST_DRAWS, LAST_FIRST}

MOST_DRAWS-is : MOST_DRAWS ≡ 1000000
MOST_DRAWS-is = refl

LAST_FIRST-is : LAST_FIRST ≡ 4000000000
LAST_FIRST-is = refl
