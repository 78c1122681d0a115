-- The numbers of the limits, and of the byte that has a name, so that none changes unseen.
use Rattle.std.specs.Prelude.{◌≡◌, refl}
use Rattle.rdt_types.specs.declared.limits.TheConstants as limits
use Rattle.rdt_types.specs.declared.printed.TheConstants.{DELETE}

LEAST_SHARDS-is : limits.LEAST_SHARDS ≡ 1
LEAST_SHARDS-is = refl

MOST_SHARDS-is : limits.MOST_SHARDS ≡ 16
MOST_SHARDS-is = refl

STANDARD_SHARDS-is : limits.STANDARD_SHARDS ≡ 4
STANDARD_SHARDS-is = refl

LEAST_WINDOW-is : limits.LEAST_WINDOW ≡ 1
LEAST_WINDOW-is = refl

MOST_WINDOW-is : limits.MOST_WINDOW ≡ 4096
MOST_WINDOW-is = refl

STANDARD_WINDOW-is : limits.STANDARD_WINDOW ≡ 4096
STANDARD_WINDOW-is = refl

LEAST_COMMITS-is : limits.LEAST_COMMITS ≡ 1
LEAST_COMMITS-is = refl

MOST_COMMITS-is : limits.MOST_COMMITS ≡ 100000
MOST_COMMITS-is = refl

STANDARD_COMMITS-is : limits.STANDARD_COMMITS ≡ 100000
STANDARD_COMMITS-is = refl

DELETE-is : DELETE ≡ 127
DELETE-is = refl
