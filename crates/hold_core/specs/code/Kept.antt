-- What a book of holds keeps, so that there is always memory for one more.
use Rattle.std.specs.Prelude.{ℕ, ◌-◌, ◌<◌, ◌≤◌, List, [], ◌∷◌}
use Rattle.std.specs.List.{AllByRecursion}
use Rattle.journal_core.specs.declared.hold.Hold.{Hold}
use Rattle.journal_core.specs.declared.limits.TheConstants.{HOLD_LASTS}

-- the numbers of holds rise, all past a number
abbrev pub RisePast : ℕ → List Hold → Type 0
RisePast number [] = Unit {0}
RisePast number (hold ∷ rest) = (number < hold.number) × RisePast hold.number rest

-- The holds of a journal of this length are of its last commits, each of one of its own. So they are no more than there is memory
-- for.
pub record AreKept (length : ℕ) (holds : List Hold) (capacity : ℕ) : Type 0 where
  pub rising : RisePast (length - HOLD_LASTS) holds
  pub within : AllByRecursion (λ hold. hold.number ≤ length) holds
  pub room : HOLD_LASTS ≤ capacity
