-- The laws of caches.
use Rattle.std.specs.Prelude.{◌≡◌, List, ◌++◌, Some}
use Rattle.rdt_types.specs.declared.address.Address.{Address}
use Rattle.rdt_types.specs.declared.value.Value.{Value}
use Rattle.rdt_types.specs.DeltaMaps.{delta_at}
use Rattle.change_feed.specs.declared.change.Change.{Change}
use Rattle.change_feed.specs.Pending.{deltas_at, pending}
use Rattle.change_feed.specs.Feeds.{Fed, AreOfTheirKinds}
use Rattle.client_cache.specs.Histories.{apply_maybe, applied, state_at}
use Rattle.client_cache.specs.Cached.{Cached, held, Advances}

-- What is pending after changes, applied at once, is each change in turn.
abbrev pub PendingAppliesInTurn : Type 0
PendingAppliesInTurn =
    (changes : List Change) (address : Address) (value : Value) → AreOfTheirKinds changes
    → apply_maybe (pending address changes) value ≡ applied (deltas_at address changes) value

-- the value at an address is the state there after changes, if the cache holds one
abbrev pub HoldsState : Cached → List Change → Address → Type 0
HoldsState cache changes address = (value : Value) → held cache address ≡ Some value → value ≡ state_at changes address

-- A cache that holds the state at an address after changes, and advances by a feed that has there what is pending of later
-- changes, holds the state after all of them.
abbrev pub CachesFollow : Type 0
CachesFollow =
    (old new : Cached) (feed : Fed) (changes later : List Change) (address : Address) → AreOfTheirKinds later
    → HoldsState old changes address → delta_at feed.changes address ≡ pending address later → Advances old new feed
    → HoldsState new (changes ++ later) address
