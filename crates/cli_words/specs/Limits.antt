-- The numbers of the limits, so that none changes unseen.
use Rattle.std.specs.Prelude.{◌≡◌, refl}
use Rattle.cli_words.specs.declared.limits.TheConstants as limits

LEAST_SESSIONS-is : limits.LEAST_SESSIONS ≡ 1
LEAST_SESSIONS-is = refl

MOST_SESSIONS-is : limits.MOST_SESSIONS ≡ 1000
MOST_SESSIONS-is = refl

MOST_AT-is : limits.MOST_AT ≡ 18446744073709551615
MOST_AT-is = refl

MOST_SEED-is : limits.MOST_SEED ≡ 65535
MOST_SEED-is = refl

LEAST_COUNT-is : limits.LEAST_COUNT ≡ 1
LEAST_COUNT-is = refl

MOST_COUNT-is : limits.MOST_COUNT ≡ 40000
MOST_COUNT-is = refl

STANDARD_SESSIONS-is : limits.STANDARD_SESSIONS ≡ 1
STANDARD_SESSIONS-is = refl
