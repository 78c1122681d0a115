-- The limits, by their numbers.
use Rattle.std.specs.Prelude.{◌≡◌, ◌+◌, ◌*◌, refl}
use Rattle.session_core.specs.declared.limits.TheConstants.{MOST_EVENTS, MOST_CALLS}

MOST_EVENTS-is : MOST_EVENTS ≡ 10020
MOST_EVENTS-is = refl

-- 256 attempts, each behind a refresh
MOST_CALLS-is : MOST_CALLS ≡ 256 * (MOST_EVENTS + 1)
MOST_CALLS-is = refl

MOST_CALLS-number : MOST_CALLS ≡ 2565376
MOST_CALLS-number = refl
