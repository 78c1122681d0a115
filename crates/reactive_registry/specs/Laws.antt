-- The laws of registries: what each call does to what is kept of one subscriber keeps that standing for changes.
use Rattle.std.specs.Prelude.{◌≡◌, ℕ, ◌≤◌, ◌<◌, true, List, ◌++◌, Option, Some}
use Rattle.std.specs.List.{AllByRecursion}
use Rattle.rdt_types.specs.declared.address.Address.{Address}
use Rattle.change_feed.specs.declared.change.Change.{Change}
use Rattle.rdt_types.specs.DeltaMaps.{delta_at}
use Rattle.change_feed.specs.Changes.{past}
use Rattle.change_feed.specs.Pending.{deltas_at, pending}
use Rattle.change_feed.specs.Feeds.{Fed, AreOfTheirKinds}
use Rattle.change_feed.specs.Tails.{IsTail}
use Rattle.client_cache.specs.Cached.{Cached, Advances}
use Rattle.client_cache.specs.Laws.{HoldsState}
use Rattle.reactive_registry.specs.Registered.{Kept, Registered, kept_of, Keeps, DoesToAll, entered, subscribed, unsubscribed, emptied, told, is_address}
use Rattle.reactive_registry.specs.Registered.{pending_for, pending_of}
use Rattle.reactive_registry.specs.Standing.{KeptFor, StandsFor}

-- What is pending for one that stands for changes is, at each of its addresses, what those past the number taken last come to.
abbrev pub PendingIsSince : Type 0
PendingIsSince = (changes : List Change) (front : ℕ) (kept : Kept) (address : Address) → KeptFor changes front kept
    → is_address kept address ≡ true → pending_for kept address ≡ pending address (past kept.taken changes)

-- One that enters at a front has nothing to take of changes up to it.
abbrev pub EntriesStand : Type 0
EntriesStand = (changes : List Change) (front : ℕ) → AllByRecursion (λ change. change.number ≤ front) changes → KeptFor changes front (entered front)

-- One that has taken up to a front has nothing to take of changes up to it.
abbrev pub TakesStand : Type 0
TakesStand = (changes : List Change) (front : ℕ) (kept : Kept) → AllByRecursion (λ change. change.number ≤ front) changes
    → KeptFor changes front (emptied front kept)

-- One that subscribes to an address goes on standing, where what it missed there are all changes past the number taken last.
abbrev pub SubscribesStand : Type 0
SubscribesStand = (changes missed : List Change) (front : ℕ) (kept : Kept) (address : Address) → KeptFor changes front kept
    → deltas_at address missed ≡ deltas_at address (past kept.taken changes) → KeptFor changes front (subscribed address missed kept)

-- One that unsubscribes goes on standing.
abbrev pub UnsubscribesStand : Type 0
UnsubscribesStand = (changes : List Change) (front : ℕ) (kept : Kept) (address : Address) → KeptFor changes front kept
    → KeptFor changes front (unsubscribed address kept)

-- One that stands for changes up to a front, and is told of all later ones up to another, stands for both.
abbrev pub FollowsStand : Type 0
FollowsStand = (changes later : List Change) (front to : ℕ) (kept : Kept) → front ≤ to → KeptFor changes front kept
    → AllByRecursion (λ change. front < change.number) later → KeptFor (changes ++ later) to (told later kept)

-- ---- whole registries

-- Where one subscriber comes, goes or takes, and what is kept of it then stands for the changes, the registry goes on standing.
abbrev pub OneStands : Type 0
OneStands =
    (changes : List Change) (old new : Registered) (subscriber : ℕ) (kept : Option Kept) → StandsFor changes old → new.front ≡ old.front
    → Keeps subscriber kept old new
    → ((k : Kept) → kept ≡ Some k → KeptFor changes old.front k) → StandsFor changes new

-- A registry that has followed all later changes up to its new front stands for all.
abbrev pub AllStand : Type 0
AllStand =
    (changes later : List Change) (old new : Registered) → StandsFor changes old → IsTail old.front new.front later
    → DoesToAll (told later) old new → StandsFor (changes ++ later) new

-- A client holds the state at an address after the changes up to the number that its subscriber took last. Once it has
-- advanced by a feed of what is pending there, it holds the state after all changes that the registry stands for.
abbrev pub ClientsFollow : Type 0
ClientsFollow =
    (before after : List Change) (registry : Registered) (subscriber : ℕ) (kept : Kept) (old new : Cached) (feed : Fed) (address : Address)
    → AreOfTheirKinds after → StandsFor (before ++ after) registry → kept_of registry subscriber ≡ Some kept → is_address kept address ≡ true
    → AllByRecursion (λ change. change.number ≤ kept.taken) before → AllByRecursion (λ change. kept.taken < change.number) after
    → HoldsState old before address → delta_at feed.changes address ≡ pending_of registry subscriber address → Advances old new feed
    → HoldsState new (before ++ after) address
