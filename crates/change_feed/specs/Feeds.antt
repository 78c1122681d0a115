-- Feeds: what changes come to, by address.
use Rattle.std.specs.Prelude.{◌≡◌, ℕ, List, [], ◌∷◌, ◌++◌, fold, codes, pos, negsuc, Option, Some, None, refl}
use Rattle.std.specs.Coded.{Coded, code_by, coded×, coded_list, coded_ℕ}
use Rattle.std.specs.Map.{keys_of}
use Rattle.std.specs.List.{AllByRecursion}
use Rattle.std.specs.List.Sorted.{IsStrictlySortedBy}
use Rattle.rdt_types.specs.declared.address.Address.{Address}
use Rattle.rdt_types.specs.declared.address.Kind.TheVariants as kind
use Rattle.rdt_types.specs.declared.delta.Delta.{Delta}
use Rattle.rdt_types.specs.declared.delta.Delta.TheVariants as delta
use Rattle.rdt_types.specs.Addresses.{address_cmp}
use Rattle.rdt_types.specs.Deltas.{kind_changed}
use Rattle.rdt_types.specs.DeltaMaps.{Deltas, delta_at, after_maybe, with_delta}
use Rattle.change_feed.specs.declared.change.Change.{Change}
use Rattle.change_feed.specs.Pending.{pending}

-- a feed: up to which commit it goes, and the changes by rising address
pub record Fed : Type 0 where
  pub to : ℕ
  pub changes : Deltas

-- it is stored as the pair of its fields
abbrev pub fed_code : Coded Address → Coded Delta → Coded Fed
fed_code address delta =
    code_by (ℕ × Deltas) (coded× coded_ℕ (coded_list (coded× address delta))) (λ f. (f.to, f.changes)) (λ p. record { to = p.0; changes = p.1 }) (λ _. refl)

-- nothing changed yet
abbrev pub begun : ℕ → Fed
begun to = record { to = to; changes = [] }

-- one delta more at an address, after what stands there
abbrev pub with_change : Fed → Address → Delta → Fed
with_change feed address delta = record feed { changes = with_delta feed.changes address delta }

-- deltas and then others, each added at its address
abbrev pub joined : Deltas → Deltas → Deltas
joined changes later = fold (λ all pair. with_delta all pair.0 pair.1) changes later

-- all of a later feed, up to where it goes
abbrev pub with_feed : Fed → Fed → Fed
with_feed feed later = record { to = later.to; changes = joined feed.changes later.changes }

-- changes one by one
abbrev pub with_changes : Deltas → List Change → Deltas
with_changes deltas changes = fold (λ all change. with_delta all change.address change.delta) deltas changes

-- a feed that got changes one by one has at each address what is pending there
abbrev pub FeedsKeepPending : Type 0
FeedsKeepPending = (changes : List Change) (address : Address) → delta_at (with_changes [] changes) address ≡ pending address changes

-- what stands at an address after what may stand there before
abbrev pub after_both : Option Delta → Option Delta → Option Delta
after_both before None = before
after_both before (Some delta) = Some (after_maybe before delta)

-- A feed and a later one, joined, have at each address the composition of what both have there.
abbrev pub FeedsJoin : Type 0
FeedsJoin =
    (changes later : Deltas) (address : Address) → IsStrictlySortedBy address_cmp (keys_of later)
    → delta_at (joined changes later) address ≡ after_both (delta_at changes address) (delta_at later address)

-- each delta is of the kind of its address
abbrev pub AreOfTheirKinds : List Change → Type 0
AreOfTheirKinds changes = AllByRecursion (λ change. kind_changed change.delta ≡ change.address.kind) changes

-- What is pending after changes and then others is what is pending after the first and then what is after the others. So
-- two feeds of changes that follow one another, joined, have what is pending after all of these.
abbrev pub PendingJoins : Type 0
PendingJoins =
    (changes later : List Change) (address : Address) → AreOfTheirKinds changes → AreOfTheirKinds later
    → pending address (changes ++ later) ≡ after_both (pending address changes) (pending address later)

-- ---- worked lines

-- the counter with this key
abbrev counter : List ℕ → Address
counter key = record { kind = kind.Counter; key = key }

-- an addition of 0 is kept, and nothing stands at another address
addition-of-0-kept : with_change (with_change (begun 2) (counter (codes "x")) (delta.AddCounter (pos 3))) (counter (codes "x")) (delta.AddCounter (negsuc 2))
    ≡ record { to = 2; changes = (counter (codes "x"), delta.AddCounter (pos 0)) ∷ [] }
addition-of-0-kept = refl

-- a put of a later feed forgets the addition before it, and its number counts
later-put : with_feed (with_change (begun 2) (counter (codes "x")) (delta.AddCounter (pos 1))) (with_change (begun 5) (counter (codes "x")) (delta.PutCounter (pos 7)))
    ≡ record { to = 5; changes = (counter (codes "x"), delta.PutCounter (pos 7)) ∷ [] }
later-put = refl

-- what a later feed has at another address stands beside it
later-addition :
    with_feed (record { to = 5; changes = (counter (codes "x"), delta.PutCounter (pos 7)) ∷ [] })
    (with_change (begun 6) (counter (codes "y")) (delta.AddCounter (pos 2)))
    ≡ record { to = 6; changes = (counter (codes "x"), delta.PutCounter (pos 7)) ∷ (counter (codes "y"), delta.AddCounter (pos 2)) ∷ [] }
later-addition = refl
