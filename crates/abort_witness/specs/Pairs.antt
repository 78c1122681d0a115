-- Pairs of an observation and a commit that clashes with it, and the least of them.
use Rattle.std.specs.Prelude.{◌≡◌, ℕ, ◌+◌, ◌<◌, ◌≤◌, ◌^◌, ◌⊎◌, length, Bool, true, false, ◌&&◌, if◌then◌else◌, nat_lt, List, [], ◌∷◌, filter, slice_get}
use Rattle.std.specs.Prelude.{Option, Some, None, option_map, MatchOption, codes, pos, refl}
use Rattle.std.specs.BTreeMap.{is_at}
use Rattle.rdt_types.specs.declared.address.Kind.TheVariants as kind
use Rattle.rdt_types.specs.declared.address.Address.{Address}
use Rattle.rdt_types.specs.declared.delta.Delta.TheVariants as delta
use Rattle.rdt_types.specs.Addresses.{address_cmp}
use Rattle.conflict_table.specs.declared.observation.Obs.TheVariants as obs
use Rattle.conflict_table.specs.Clashes.{clash}
use Rattle.change_feed.specs.declared.change.Change.{Change}
use Rattle.change_feed.specs.Tails.{IsTail}
use Rattle.abort_witness.specs.declared.witness.Based.{Based}
use Rattle.abort_witness.specs.declared.witness.Found.{Found}

-- whether a change is of a commit past the base of an observation, and at its address
abbrev pub meets : Based → Change → Bool
meets based change = nat_lt based.base change.number && is_at (address_cmp based.address) change.address

-- how many of some changes it meets
abbrev pub count_met : Based → List Change → ℕ
count_met based changes = length (filter (meets based) changes)

-- A change clashes with an observation where it is of a commit past its base, is at its address, and clashes by the table.
abbrev pub clashes : Based → Change → Bool
clashes based change = meets based change && clash based.obs change.delta

-- Each place among these is a number of 32 bits, as that of a pair that is found.
abbrev pub HavePlaces : List Based → Type 0
HavePlaces based = length based < 2 ^ 32

-- ---- what the least pair is

-- A pair: the observation at the place clashes with some change of the commit that has the number. A commit may change
-- several addresses, so one number may make pairs with several observations.
pub record IsPair (based : List Based) (changes : List Change) (found : Found) : Type 0 where
  pub observation : Based
  pub change : Change
  pub index : ℕ
  pub placed : slice_get based found.place ≡ Some observation
  pub among : slice_get changes index ≡ Some change
  pub numbered : change.number ≡ found.number
  pub clashing : clashes observation change ≡ true

-- the first is numbered below the second, or the same and placed at it or before it
abbrev pub IsUpTo : Found → Found → Type 0
IsUpTo first second = (first.number < second.number) ⊎ ((first.number ≡ second.number) × (first.place ≤ second.place))

-- The least pair: every pair is numbered above it, or the same and placed at it or behind it.
pub record IsLeast (based : List Based) (changes : List Change) (found : Found) : Type 0 where
  pub pair : IsPair based changes found
  pub least : (other : Found) → IsPair based changes other → IsUpTo found other

-- there is no pair
abbrev pub HasNoPair : List Based → List Change → Type 0
HasNoPair based changes = (found : Found) → IsPair based changes found → ⊥

-- ---- what computes it, of changes whose numbers don't fall

-- the number of the first change that clashes with an observation
abbrev pub first_clash : Based → List Change → Option ℕ
first_clash based [] = None
first_clash based (change ∷ changes) = if clashes based change then Some change.number else first_clash based changes

-- a number, as found at a place
abbrev pub found_at : ℕ → Option ℕ → Option Found
found_at place number = option_map (λ n. record { place = place; number = n }) number

-- the one of the lesser number, and of equals the first
abbrev pub lesser : Option Found → Option Found → Option Found
lesser None second = second
lesser (Some first) None = Some first
lesser (Some first) (Some second) = if nat_lt second.number first.number then Some second else Some first

-- of observations from a place on
abbrev pub least_from : ℕ → List Based → List Change → Option Found
least_from place [] changes = None
least_from place (based ∷ rest) changes = lesser (found_at place (first_clash based changes)) (least_from (place + 1) rest changes)

-- The least pair: each observation has the first number that clashes with it, and the least of these counts, at the first
-- place that has it.
abbrev pub least : List Based → List Change → Option Found
least based changes = least_from 0 based changes

-- A law: of the changes of a tail this is the least pair, and it is none exactly where there is no pair.
abbrev pub LeastIsLeast : Type 0
LeastIsLeast =
    (based : List Based) (from to : ℕ) (changes : List Change) → IsTail from to changes
    → MatchOption (least based changes) (HasNoPair based changes) (IsLeast based changes)

-- ---- worked lines

abbrev counter : List ℕ → Address
counter key = record { kind = kind.Counter; key = key }

-- a counter that was read at 3
abbrev read : List ℕ → Based
read key = record { address = counter key; obs = obs.CounterIs; base = 3 }

-- an addition by the commit of a number
abbrev added : ℕ → List ℕ → Change
added number key = record { number = number; address = counter key; delta = delta.AddCounter (pos 1) }

-- a change at the base is no clash, and one past it is one
at-the-base : clashes (read (codes "x")) (added 3 (codes "x")) ≡ false
at-the-base = refl

past-the-base : clashes (read (codes "x")) (added 4 (codes "x")) ≡ true
past-the-base = refl

-- the least number counts before the place
least-number : least (read (codes "x") ∷ read (codes "y") ∷ []) (added 4 (codes "y") ∷ added 5 (codes "x") ∷ []) ≡ Some (record { place = 1; number = 4 })
least-number = refl

-- of one commit the first observation counts, and not the first change
first-observation : least (read (codes "y") ∷ read (codes "x") ∷ []) (added 4 (codes "x") ∷ added 4 (codes "y") ∷ []) ≡ Some (record { place = 0; number = 4 })
first-observation = refl

-- what stands at another address is no clash
no-clash : least (read (codes "x") ∷ []) (added 4 (codes "y") ∷ []) ≡ None
no-clash = refl

-- a peak of which it was asked at 3 whether it is above 10, and a raise of it by the next commit
abbrev over : Bool → Based
over answer = record { address = record { kind = kind.Peak; key = codes "bid" }; obs = obs.PeakOver (pos 10) answer; base = 3 }

abbrev raised : Change
raised = record { number = 4; address = record { kind = kind.Peak; key = codes "bid" }; delta = delta.Raise (pos 11) }

-- the raise changes what was false, and never what was true
raise-above : clashes (over false) raised ≡ true
raise-above = refl

over-for-good : clashes (over true) raised ≡ false
over-for-good = refl
