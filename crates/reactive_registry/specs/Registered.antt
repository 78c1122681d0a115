-- What a registry keeps of each subscriber.
use Rattle.std.specs.Prelude.{◌≡◌, ℕ, Bool, false, not, ◌&&◌, List, [], ◌∷◌, ◌++◌, filter, if◌then◌else◌, Option, Some, None}
use Rattle.std.specs.Prelude.{option_and_then, option_map, codes, pos, refl}
use Rattle.std.specs.Coded.{Coded, code_by, coded×, coded_list, coded_ℕ}
use Rattle.std.specs.List.{list_any}
use Rattle.std.specs.Option.{option_map_or}
use Rattle.std.specs.Ordering.{nat_cmp}
use Rattle.std.specs.Map.{lookup}
use Rattle.std.specs.BTreeMap.{is_at}
use Rattle.std.specs.BTreeSet.{insert_key}
use Rattle.rdt_types.specs.declared.address.Kind.TheVariants as kind
use Rattle.rdt_types.specs.declared.address.Address.{Address}
use Rattle.rdt_types.specs.declared.delta.Delta.{Delta}
use Rattle.rdt_types.specs.declared.delta.Delta.TheVariants as delta
use Rattle.rdt_types.specs.Addresses.{address_cmp}
use Rattle.rdt_types.specs.DeltaMaps.{delta_at}
use Rattle.change_feed.specs.declared.change.Change.{Change}
use Rattle.change_feed.specs.Changes.{of_address}
use Rattle.change_feed.specs.Pending.{pending}
use Rattle.change_feed.specs.Feeds.{Fed}

-- of a subscriber: the number up to which it has taken, its addresses, and the changes there that it hasn't taken yet
pub record Kept : Type 0 where
  pub taken : ℕ
  pub addresses : List Address
  pub changes : List Change

-- a registry: the number up to which it has followed the journal, and each subscriber that has entered, by rising number
pub record Registered : Type 0 where
  pub front : ℕ
  pub subscribers : List (ℕ × Kept)

-- they are stored as the tuples of their fields
abbrev pub kept_code : Coded Address → Coded Change → Coded Kept
kept_code address change =
    code_by (ℕ × (List Address × List Change)) (coded× coded_ℕ (coded× (coded_list address) (coded_list change)))
    (λ k. (k.taken, (k.addresses, k.changes))) (λ p. record { taken = p.0; addresses = p.1.0; changes = p.1.1 }) (λ _. refl)

-- it is stored as the pair of its fields
abbrev pub registered_code : Coded Kept → Coded Registered
registered_code kept =
    code_by (ℕ × List (ℕ × Kept)) (coded× coded_ℕ (coded_list (coded× coded_ℕ kept))) (λ r. (r.front, r.subscribers))
    (λ p. record { front = p.0; subscribers = p.1 }) (λ _. refl)

-- nobody has entered
abbrev pub empty : ℕ → Registered
empty front = record { front = front; subscribers = [] }

-- what is kept of a subscriber; nothing exactly where it isn't entered
abbrev pub kept_in : List (ℕ × Kept) → ℕ → Option Kept
kept_in subscribers subscriber = lookup (is_at (nat_cmp subscriber)) subscribers

-- what is kept for a subscriber
abbrev pub kept_of : Registered → ℕ → Option Kept
kept_of registry subscriber = kept_in registry.subscribers subscriber

-- whether an address is a subscriber's
abbrev pub is_address : Kept → Address → Bool
is_address kept address = list_any (is_at (address_cmp address)) kept.addresses

-- whether a subscriber has subscribed to an address
abbrev pub is_in : List (ℕ × Kept) → ℕ → Address → Bool
is_in subscribers subscriber address = option_map_or (λ kept. is_address kept address) (kept_in subscribers subscriber) false

-- whether a subscriber is entered and subscribed to an address
abbrev pub is_subscribed : Registered → ℕ → Address → Bool
is_subscribed registry subscriber address = is_in registry.subscribers subscriber address

-- what is kept of a subscriber in the place of what was kept before; the others are as before
abbrev pub with_kept : Registered → ℕ → Option Kept → ℕ → Option Kept
with_kept registry subscriber kept other = if is_at (nat_cmp subscriber) other then kept else kept_of registry other

-- what is kept of each subscriber after a call did something to what is kept of one: the others are as before
abbrev pub kept_after : Registered → ℕ → (Kept → Kept) → ℕ → Option Kept
kept_after registry subscriber does other = with_kept registry subscriber (option_map does (kept_of registry subscriber)) other

-- who is subscribed to what, once that is settled of one subscriber and one address: the other pairs are as before
abbrev pub with_subscription : Registered → ℕ → Address → Bool → ℕ → Address → Bool
with_subscription registry subscriber address stands s a =
    if is_at (nat_cmp subscriber) s && is_at (address_cmp address) a then stands else is_subscribed registry s a

-- ---- what a call leaves of a registry: of each subscriber, and of each pair

-- what is kept of one subscriber is this now, and the others are as before
abbrev pub Keeps : ℕ → Option Kept → Registered → Registered → Type 0
Keeps subscriber kept old new = (s : ℕ) → kept_of new s ≡ with_kept old subscriber kept s

-- something was done to what is kept of one subscriber, and the others are as before
abbrev pub DoesTo : ℕ → (Kept → Kept) → Registered → Registered → Type 0
DoesTo subscriber does old new = (s : ℕ) → kept_of new s ≡ kept_after old subscriber does s

-- something was done to what is kept of each subscriber
abbrev pub DoesToAll : (Kept → Kept) → Registered → Registered → Type 0
DoesToAll does old new = (s : ℕ) → kept_of new s ≡ option_map does (kept_of old s)

-- whether one subscriber is subscribed to one address is settled, and the other pairs are as before
abbrev pub SettlesPair : ℕ → Address → Bool → Registered → Registered → Type 0
SettlesPair subscriber address stands old new =
    (s : ℕ) (a : Address) → is_subscribed new s a ≡ with_subscription old subscriber address stands s a

-- and so of one subscriber's addresses
abbrev pub SettlesAddress : Address → Bool → Kept → Kept → Type 0
SettlesAddress address stands old new =
    (a : Address) → is_address new a ≡ (if is_at (address_cmp address) a then stands else is_address old a)

-- a feed brings at each address what is pending there
abbrev pub Brings : Fed → (Address → Option Delta) → Type 0
Brings feed pending_at = (a : Address) → delta_at feed.changes a ≡ pending_at a

-- ---- what calls do to what is kept of one subscriber

-- it enters at a front: no address, and all up to the front counts as taken
abbrev pub entered : ℕ → Kept
entered front = record { taken = front; addresses = []; changes = [] }

-- the changes elsewhere than at an address
abbrev pub changes_elsewhere : Address → List Change → List Change
changes_elsewhere address changes = filter (λ change. not (is_at (address_cmp address) change.address)) changes

-- the addresses with one more
abbrev pub addresses_with : Address → List Address → List Address
addresses_with address addresses = insert_key address_cmp addresses address

-- the changes with those of some that are at an address, behind them
abbrev pub with_missed : Address → List Change → List Change → List Change
with_missed address missed changes = changes ++ of_address address missed

-- a list of changes has gained those
abbrev pub Gains : Address → List Change → List Change → List Change → Type 0
Gains address missed old new = new ≡ with_missed address missed old

-- it has one address more, of which it missed changes: they are to be taken with the others
abbrev pub with_address : Address → List Change → Kept → Kept
with_address address missed kept =
    record kept { addresses = addresses_with address kept.addresses; changes = with_missed address missed kept.changes }

-- it subscribes to an address, of which it missed changes. Where it is subscribed, nothing changes
abbrev pub subscribed : Address → List Change → Kept → Kept
subscribed address missed kept = if is_address kept address then kept else with_address address missed kept

-- the addresses but for one
abbrev pub addresses_but : Address → List Address → List Address
addresses_but address addresses = filter (λ a. not (is_at (address_cmp address) a)) addresses

-- it unsubscribes: the address is its no longer, and nothing there is to be taken
abbrev pub unsubscribed : Address → Kept → Kept
unsubscribed address kept = record kept { addresses = addresses_but address kept.addresses; changes = changes_elsewhere address kept.changes }

-- it is told of changes: those at its addresses are to be taken
abbrev pub told : List Change → Kept → Kept
told changes kept = record kept { changes = kept.changes ++ filter (λ change. is_address kept change.address) changes }

-- it takes all up to a front
abbrev pub emptied : ℕ → Kept → Kept
emptied front kept = record kept { taken = front; changes = [] }

-- what is pending for it at an address: what the changes there that it hasn't taken come to
abbrev pub pending_for : Kept → Address → Option Delta
pending_for kept address = pending address kept.changes

-- what is pending for a subscriber at an address
abbrev pub pending_of : Registered → ℕ → Address → Option Delta
pending_of registry subscriber address = option_and_then (λ kept. pending_for kept address) (kept_of registry subscriber)

abbrev counter : List ℕ → Address
counter key = record { kind = kind.Counter; key = key }

-- an addition of 2 to x
abbrev addition : ℕ → Change
addition n = record { number = n; address = counter (codes "x"); delta = delta.AddCounter (pos 2) }

-- one that subscribes after a missed addition of 2, and is told of another, has an addition of 4 pending
pending-example : pending_for (told (addition 5 ∷ []) (subscribed (counter (codes "x")) (addition 4 ∷ []) (entered 3))) (counter (codes "x"))
    ≡ Some (delta.AddCounter (pos 4))
pending-example = refl

-- one that isn't subscribed is told nothing
told-nothing : pending_for (told (addition 5 ∷ []) (entered 3)) (counter (codes "x")) ≡ None
told-nothing = refl
