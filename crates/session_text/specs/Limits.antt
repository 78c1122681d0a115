-- The limits, by their numbers.
use Rattle.std.specs.Prelude.{◌≡◌, ◌+◌, refl}
use Rattle.session_text.specs.declared.limits.TheConstants.{MOST_ATTEMPTS, LARGEST, LARGEST_SHARD, LARGEST_COLUMN, LARGEST_CLIENT, NAME_REST}

MOST_ATTEMPTS-is : MOST_ATTEMPTS ≡ 16
MOST_ATTEMPTS-is = refl

LARGEST-is : LARGEST ≡ 18446744073709551615
LARGEST-is = refl

LARGEST_SHARD-is : LARGEST_SHARD ≡ 255
LARGEST_SHARD-is = refl

LARGEST_COLUMN-is : LARGEST_COLUMN ≡ 4294967295
LARGEST_COLUMN-is = refl

LARGEST_CLIENT-is : LARGEST_CLIENT ≡ 4294967295
LARGEST_CLIENT-is = refl

-- a name has at most 32 bytes
NAME_REST-is : 1 + NAME_REST ≡ 32
NAME_REST-is = refl
