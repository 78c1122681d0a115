-- The watches of a client by their numbers: each is given one at its making, above all before it. `along-all` of proofs/Placed ties
-- who is told to `all_told` of specs/Watches, `first-place` of proofs/Rolls and `found_at` of proofs/Shown the stale ones to
-- `first_stale`, `stale-bodies` of proofs/Listing all of them to `stale_of`, and `named-none` of proofs/Rolls a name without a number to `watch_of`.
use Rattle.std.specs.Prelude.{◌≡◌, ℕ, zero, suc, ◌<◌, ◌≤◌, Bool, true, false, List, [], ◌∷◌, fold, length, Option, Some, None, Vec, if◌then◌else◌, nat_eq}
use Rattle.std.specs.declared.alloc.Global.{Global}
use Rattle.std.specs.List.{AllByRecursion}
use Rattle.std.specs.Map.{values_of}
use Rattle.std.specs.Str.{bytes_eq}
use Rattle.plain_data.specs.Texts.{Bytes}
use Rattle.rdt_types.specs.declared.address.Address.{Address}
use Rattle.rdt_types.specs.DeltaMaps.{Deltas}
use Rattle.txn_lang.specs.declared.checked.Checked.{Checked}
use Rattle.txn_lang.specs.declared.run.Seen.{Seen}
use Rattle.rerun_driver.specs.declared.watch.Watch.{Watch}
use Rattle.rerun_driver.specs.declared.places.Places.{Places}
use Rattle.rerun_driver.specs.Watches.{Watches, Bodies, told, is_observed_by}
use Rattle.rerun_driver.specs.code.Numbers.{Roomy, IsRising}
use Rattle.rerun_driver.specs.code.Places.{numbers_at, stands}

-- the numbers of the watches, and the watches by their names, both in the order of their making
abbrev pub Rolled : Type 0
Rolled = List ℕ × Watches

-- the numbers of the stale ones
abbrev pub stale_numbers : List ℕ → List Watch → List ℕ
stale_numbers [] watches = []
stale_numbers (n ∷ ns) [] = []
stale_numbers (n ∷ ns) (watch ∷ watches) = if watch.stale then n ∷ stale_numbers ns watches else stale_numbers ns watches

-- There are as many numbers as watches, they rise and are below that of the next watch; the stale ones are listed, and the list
-- has room for all.
pub record IsRoll (order stale : Roomy) (made : ℕ) (kept : List (Vec ℕ Global × Watch)) : Type 0 where
  pub as_many : length order.0 ≡ length kept
  pub rising : IsRising order.0
  pub below : AllByRecursion (λ n. n < made) order.0
  pub listed : stale.0 ≡ stale_numbers order.0 (values_of kept)
  pub room : length kept ≤ stale.1

-- ---- by name and by number

-- the number of the watch of a name
abbrev pub number_in : List ℕ → Watches → Bytes → Option ℕ
number_in [] watches name = None
number_in (n ∷ ns) [] name = None
number_in (n ∷ ns) (e ∷ es) name = if bytes_eq name e.0 then Some n else number_in ns es name

-- the same of a whole roll
abbrev pub number_of : Rolled → Bytes → Option ℕ
number_of roll name = number_in roll.0 roll.1 name

-- what the watch of a number observed at its last run; nothing where there is none of that number
abbrev pub seen_in : List ℕ → Watches → ℕ → List Seen
seen_in [] watches n = []
seen_in (m ∷ ms) [] n = []
seen_in (m ∷ ms) (e ∷ es) n = if nat_eq m n then e.1.observations else seen_in ms es n

-- the same of a whole roll
abbrev pub seen_by : Rolled → ℕ → List Seen
seen_by roll n = seen_in roll.0 roll.1 n

-- the name and the body of the watch of a number
abbrev pub body_in : List ℕ → Watches → ℕ → Option (Bytes × Checked)
body_in [] watches n = None
body_in (m ∷ ms) [] n = None
body_in (m ∷ ms) (e ∷ es) n = if nat_eq m n then Some (e.0, e.1.body) else body_in ms es n

-- the same of a whole roll
abbrev pub body_by : Rolled → ℕ → Option (Bytes × Checked)
body_by roll n = body_in roll.0 roll.1 n

-- one in front of others, where there is one
abbrev pub and_those : Option (Bytes × Checked) → Bodies → Bodies
and_those None bodies = bodies
and_those (Some entry) bodies = entry ∷ bodies

-- the names and the bodies of the watches of some numbers
abbrev pub bodies_in : List ℕ → Watches → List ℕ → Bodies
bodies_in order watches [] = []
bodies_in order watches (n ∷ ns) = and_those (body_in order watches n) (bodies_in order watches ns)

-- ---- told one by one

-- a watch that is told, or isn't
abbrev pub told_if : Bool → Deltas → Watch → Watch
told_if is changes watch = if is then told changes watch else watch

-- the watch at a place is told
abbrev pub told_place : Deltas → ℕ → Watches → Watches
told_place changes place [] = []
told_place changes zero (e ∷ es) = (e.0, told changes e.1) ∷ es
told_place changes (suc place) (e ∷ es) = e ∷ told_place changes place es

-- the watch of a number is told
abbrev pub told_numbered : Deltas → ℕ → List ℕ → Watches → Watches
told_numbered changes n [] watches = watches
told_numbered changes n (m ∷ ms) [] = []
told_numbered changes n (m ∷ ms) (e ∷ es) = (e.0, told_if (nat_eq m n) changes e.1) ∷ told_numbered changes n ms es

-- the same of a whole roll, whose numbers stay
abbrev pub told_at : Deltas → Rolled → ℕ → Rolled
told_at changes roll n = (roll.0, told_numbered changes n roll.0 roll.1)

-- the watches of some numbers are told
abbrev pub told_set : Deltas → List ℕ → Rolled → Rolled
told_set changes numbers roll = fold (told_at changes) roll numbers

-- the watches that stand at the addresses of some deltas are told
abbrev pub told_along : Places → Deltas → Deltas → Rolled → Rolled
told_along places changes deltas roll = fold (λ r delta. told_set changes (numbers_at places delta.0) r) roll deltas

-- the watch of a number observed something at an address
abbrev pub has_seen : Rolled → Address → ℕ → Bool
has_seen roll address n = is_observed_by address (seen_by roll n)

-- what the watch of a number observed is this now, and what the others did as before
abbrev pub SettlesSeen : ℕ → List Seen → Rolled → Rolled → Type 0
SettlesSeen number observations old new = (n : ℕ) → seen_by new n ≡ (if nat_eq number n then observations else seen_by old n)

-- ---- places

-- each watch stands at all addresses that its last run observed
abbrev pub Covers : Places → Rolled → Type 0
Covers places roll = (n : ℕ) (address : Address) → has_seen roll address n ≡ true → stands places address n ≡ true

-- and each but one does
abbrev pub CoversBut : ℕ → Places → Rolled → Type 0
CoversBut made places roll =
    (n : ℕ) (address : Address) → nat_eq made n ≡ false → has_seen roll address n ≡ true → stands places address n ≡ true

-- each watch stands only where its last run observed something
abbrev pub IsExact : Places → Rolled → Type 0
IsExact places roll = (n : ℕ) (address : Address) → stands places address n ≡ true → has_seen roll address n ≡ true

-- There are as many numbers as watches, and they rise.
pub record IsInOrder (roll : Rolled) : Type 0 where
  pub rising : IsRising roll.0
  pub as_many : length roll.0 ≡ length roll.1

-- The numbers are in order; each watch stands only where it observed something; and it stands at all these addresses, unless a
-- report found no memory for that.
pub record IsPlaced (is_placed : Bool) (places : Places) (roll : Rolled) : Type 0 where
  pub ordered : IsInOrder roll
  pub exact : IsExact places roll
  pub covers : is_placed ≡ true → Covers places roll
