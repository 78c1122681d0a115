-- Changes in segments, and where a number stands in them. `segments-parted` of proofs/Segmented says that the place of a number
-- among the segments, and the one in the segment there, part all changes, and the clauses of `past` and `up_to` in src/walk.rt
-- tie that to `past` and `up_to` of specs/Changes.
use Rattle.std.specs.Prelude.{◌≡◌, ℕ, suc, ◌-◌, ◌<◌, ◌≤◌, Bool, true, false, nat_le, List, [], ◌∷◌, ◌++◌, length, take, drop, get_or, codes, refl}
use Rattle.std.specs.List.{AllByRecursion, AllWithin}
use Rattle.std.specs.List.Sorted.{IsPartitionPoint, IsPartitionedBy}
use Rattle.std.specs.Global.{Vec}
use Rattle.std.specs.Vec.{vec_capacity}
use Rattle.change_feed.specs.declared.change.Change.{Change}
use Rattle.change_feed.specs.declared.changes.Changes.{Changes}
use Rattle.change_feed.specs.Segments.{changes_in}
use Rattle.journal_core.specs.Changes as spec

-- for how many more changes there is memory
abbrev pub room : Vec Change → ℕ
room changes = vec_capacity changes - length changes.items

-- the changes in segments, and those behind them
abbrev pub all_in : List (List Change) → List Change → List Change
all_in sealed last = changes_in sealed ++ last

-- no segment is empty
abbrev pub HaveChanges : List (List Change) → Type 0
HaveChanges segments = AllByRecursion (λ segment. 0 < length segment) segments

-- changes from the first one on, in segments of which none is empty and a piece behind them
pub record IsWhole (changes : Changes) : Type 0 where
  pub from_first : changes.skipped ≡ 0
  pub have_changes : HaveChanges changes.sealed.now

-- the number of the last change, or another where there is none
abbrev pub last_number : ℕ → List Change → ℕ
last_number number [] = number
last_number number (change ∷ rest) = last_number change.number rest

-- by which number a segment ends
abbrev pub end_of : List Change → ℕ
end_of segment = last_number 0 segment

-- whether a segment ends by a number
abbrev pub ends_by : ℕ → List Change → Bool
ends_by number segment = nat_le (end_of segment) number

-- the segments that end by a number stand before the others
abbrev pub EndInOrder : ℕ → List (List Change) → Type 0
EndInOrder number segments = IsPartitionedBy (ends_by number) segments

-- the segments before a place end by a number
pub record EndBefore (number : ℕ) (segments : List (List Change)) (place : ℕ) : Type 0 where
  pub within : place ≤ length segments
  pub ends : AllWithin (λ segment. ends_by number segment ≡ true) segments 0 place

-- and those from the place on don't
pub record EndExactlyBefore (number : ℕ) (segments : List (List Change)) (place : ℕ) : Type 0 where
  pub within : place ≤ length segments
  pub point : IsPartitionPoint (λ segment. ends_by number segment ≡ true) (λ segment. ends_by number segment ≡ false) segments place

-- The segments before a place are up to a number, and what is behind the one that stands there is past it. Where none does, the
-- last piece is the one that stands there.
pub record ArePartedIn (number : ℕ) (segments : List (List Change)) (last : List Change) (place : ℕ) : Type 0 where
  pub up_to : spec.up_to number (changes_in segments ++ last)
      ≡ changes_in (take place segments) ++ spec.up_to number (get_or segments place last)
  pub in_segment : place < length segments → spec.past number (changes_in segments ++ last)
      ≡ spec.past number (get_or segments place last) ++ (changes_in (drop (suc place) segments) ++ last)
  pub in_last : place ≡ length segments → spec.past number (changes_in segments ++ last) ≡ spec.past number last

-- ---- worked lines

-- a segment of two commits ends by the second's number, and so by each number from there on
end_of-example : end_of (spec.changes (spec.adding 1 (codes "x") ∷ spec.adding 2 (codes "y") ∷ [])) ≡ 2
end_of-example = refl
