-- How the code follows: it walks over changes and the subscribers of their addresses. `told_each` and `undone` of
-- proofs/Undone tie this to `told` of specs/Registered.
use Rattle.std.specs.Prelude.{◌≡◌, ℕ, ◌<◌, ◌≤◌, nat_le, Bool, false, List, [], ◌∷◌, ◌++◌, fold, filter, if◌then◌else◌, Option, option_map}
use Rattle.std.specs.List.{AllByRecursion, list_any}
use Rattle.std.specs.BTreeMap.{BTreeMap}
use Rattle.change_feed.specs.declared.change.Change.{Change}
use Rattle.reactive_registry.specs.declared.places.Places.{Places}
use Rattle.reactive_registry.specs.Registered.{Kept, kept_in}
use Rattle.reactive_registry.specs.Places.{links}

-- one more change
abbrev pub pushed : Change → Kept → Kept
pushed change kept = record kept { changes = kept.changes ++ change ∷ [] }

-- without the changes past a front
abbrev pub cut : ℕ → Kept → Kept
cut front kept = record kept { changes = filter (λ change. nat_le change.number front) kept.changes }

-- where a test holds, something is done to what is kept
abbrev pub done_where : Bool → (Kept → Kept) → Option Kept → Option Kept
done_where test does kept = if test then option_map does kept else kept

-- where a test holds, it is told of a change
abbrev pub told_where : Bool → Change → Option Kept → Option Kept
told_where test change kept = done_where test (pushed change) kept

-- of each subscriber two lists keep the same up to a front
abbrev pub SameUpTo : ℕ → List (ℕ × Kept) → List (ℕ × Kept) → Type 0
SameUpTo front old new = (q : ℕ) → option_map (cut front) (kept_in new q) ≡ option_map (cut front) (kept_in old q)

-- what is kept of a subscriber after it was told of changes one by one, each where it stands at its address
abbrev pub told_along : Places → ℕ → List Change → Option Kept → Option Kept
told_along places subscriber changes kept = fold (λ k change. done_where (links places change.address subscriber) (pushed change) k) kept changes

-- and after the way back
abbrev pub cut_along : Places → ℕ → ℕ → List Change → Option Kept → Option Kept
cut_along places subscriber front changes kept = fold (λ k change. done_where (links places change.address subscriber) (cut front) k) kept changes

-- whether a subscriber stands at the address of any of some changes
abbrev pub is_linked : Places → ℕ → List Change → Bool
is_linked places subscriber changes = list_any (λ change. links places change.address subscriber) changes

-- all changes are past a front
abbrev pub ArePast : ℕ → List Change → Type 0
ArePast front changes = AllByRecursion (λ change. front < change.number) changes

-- none is
abbrev pub IsUpTo : ℕ → List Change → Type 0
IsUpTo front changes = AllByRecursion (λ change. change.number ≤ front) changes

-- what is kept of each subscriber, as the code holds it
abbrev pub Subscribers : Type 0
Subscribers = BTreeMap ℕ Kept

-- what is kept of each subscriber is as before
abbrev pub AllSame : Subscribers → Subscribers → Type 0
AllSame old new = (q : ℕ) → kept_in new.entries q ≡ kept_in old.entries q

-- and where a test fails
abbrev pub SameBut : (ℕ → Bool) → Subscribers → Subscribers → Type 0
SameBut whose old new = (q : ℕ) → whose q ≡ false → kept_in new.entries q ≡ kept_in old.entries q

-- and where a subscriber stands at the address of none of some changes
abbrev pub SameElsewhere : Places → List Change → Subscribers → Subscribers → Type 0
SameElsewhere places changes old new = SameBut (λ q. is_linked places q changes) old new

-- and up to any front below a change
abbrev pub SameBefore : Change → Subscribers → Subscribers → Type 0
SameBefore change old new = (front : ℕ) → front < change.number → SameUpTo front old.entries new.entries

-- and up to any front that all changes are past
abbrev pub SameBeforeAll : List Change → Subscribers → Subscribers → Type 0
SameBeforeAll changes old new = (front : ℕ) → ArePast front changes → SameUpTo front old.entries new.entries

-- where a test holds, the changes past a front are gone, and elsewhere all is as before
abbrev pub CutWhere : (ℕ → Bool) → ℕ → Subscribers → Subscribers → Type 0
CutWhere whose front old new = (q : ℕ) → kept_in new.entries q ≡ done_where (whose q) (cut front) (kept_in old.entries q)

-- each subscriber was told of the changes at its addresses
abbrev pub AreTold : Places → List Change → Subscribers → Subscribers → Type 0
AreTold places changes old new = (q : ℕ) → kept_in new.entries q ≡ told_along places q changes (kept_in old.entries q)

-- each subscriber of the addresses of some changes has forgotten what is past a front
abbrev pub AreCut : Places → ℕ → List Change → Subscribers → Subscribers → Type 0
AreCut places front changes old new = (q : ℕ) → kept_in new.entries q ≡ cut_along places q front changes (kept_in old.entries q)
