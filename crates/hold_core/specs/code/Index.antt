-- An index of observations: their places, in the order of their addresses.
use Rattle.std.specs.Prelude.{◌≡◌, ℕ, ◌≤◌, Bool, true, false, List, [], ◌∷◌, length, Option, Some, None, option_map, slice_get, if◌then◌else◌, codes, refl}
use Rattle.std.specs.Prelude.{All, IsPermutation, IsSortedByKey, count_by}
use Rattle.std.specs.List.{range_with_len}
use Rattle.std.specs.List.Sorted.{IsNonDecreasingBy, IsPartitionPoint}
use Rattle.std.specs.Option.{option_cmp}
use Rattle.std.specs.Ordering.{is_eq, is_lt, ordering_index}
use Rattle.std.specs.declared.cmp.Ordering.{Ordering}
use Rattle.rdt_types.specs.declared.address.Address.{Address}
use Rattle.rdt_types.specs.declared.address.Kind.TheVariants as kind
use Rattle.rdt_types.specs.declared.delta.Delta.{Delta}
use Rattle.rdt_types.specs.Addresses.{address_cmp}
use Rattle.conflict_table.specs.declared.observation.Obs.TheVariants as obs
use Rattle.txn_lang.specs.declared.run.Seen.{Seen}
use Rattle.journal_core.specs.Holds.{hits}

-- so many places, one after another
abbrev pub first_places : ℕ → List ℕ
first_places count = range_with_len 0 count

-- the address of what was observed at a place, if anything was
abbrev pub address_at : List Seen → ℕ → Option Address
address_at observations place = option_map (λ seen. seen.address) (slice_get observations place)

-- how two places stand to one another: by the addresses of what was observed there
abbrev pub place_order : List Seen → ℕ → ℕ → Ordering
place_order observations a b = option_cmp address_cmp (address_at observations a) (address_at observations b)

-- places are in that order
abbrev pub AreSorted : List Seen → List ℕ → Type 0
AreSorted observations places = IsSortedByKey (address_at observations) (option_cmp address_cmp) places

-- THE INDEX: each place of an observation stands in it once, and the addresses there don't fall.
pub record IsIndex (observations : List Seen) (places : List ℕ) : Type 0 where
  pub whole : IsPermutation (first_places (length observations)) places
  pub sorted : AreSorted observations places

-- ---- how places stand to an address

-- a place where nothing was observed comes before all addresses
abbrev pub order_at : List Seen → Address → ℕ → Ordering
order_at observations address place = option_cmp address_cmp (address_at observations place) (Some address)

-- what was observed at a place is at the address
abbrev pub is_met_at : List Seen → Address → ℕ → Bool
is_met_at observations address place = is_eq (order_at observations address place)

-- at how many of some places it is
abbrev pub met_among : List Seen → Address → List ℕ → ℕ
met_among observations address places = count_by (is_met_at observations address) places

-- that observation
abbrev pub seen_at : List Seen → Address → ℕ → Option Seen
seen_at observations address place = if is_met_at observations address place then slice_get observations place else None

-- a delta at an address disturbs what was observed, if anything was
abbrev pub hit_by : Address × Delta → Option Seen → Bool
hit_by pair None = false
hit_by pair (Some seen) = hits seen pair

-- and so it does what was observed at a place
abbrev pub is_hit_at : List Seen → Address × Delta → ℕ → Bool
is_hit_at observations pair place = hit_by pair (slice_get observations place)

-- ---- along places

-- the places before an address come first, then those at it, and then those behind it
abbrev pub Rises : List Seen → Address → List ℕ → Type 0
Rises observations address places = IsNonDecreasingBy (λ place. ordering_index (order_at observations address place)) places

-- none of them is before it
abbrev pub IsReached : List Seen → Address → List ℕ → Type 0
IsReached observations address places = All (λ place. is_lt (order_at observations address place) ≡ false) places

-- so many are before it
abbrev pub IsFirstAt : List Seen → Address → List ℕ → ℕ → Type 0
IsFirstAt observations address places from =
    (from ≤ length places)
    × IsPartitionPoint (λ place. is_lt (order_at observations address place) ≡ true) (λ place. is_lt (order_at observations address place) ≡ false)
    places from

-- ---- worked lines

abbrev counter : List ℕ → Address
counter key = record { kind = kind.Counter; key = key }

-- the counters y, x and y were read
abbrev three : List Seen
three =
    record { address = counter (codes "y"); obs = obs.CounterIs }
    ∷ record { address = counter (codes "x"); obs = obs.CounterIs }
    ∷ record { address = counter (codes "y"); obs = obs.CounterIs }
    ∷ []

-- so y was at 0 and at 2, and not at 1
seen_at-0 : seen_at three (counter (codes "y")) 0 ≡ slice_get three 0
seen_at-0 = refl

seen_at-1 : seen_at three (counter (codes "y")) 1 ≡ None
seen_at-1 = refl
