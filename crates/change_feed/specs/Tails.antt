-- What a tail keeps.
use Rattle.std.specs.Prelude.{ℕ, ◌<◌, ◌≤◌, List, length, All}
use Rattle.std.specs.List.{AllAdjacentBelow}
use Rattle.change_feed.specs.declared.change.Change.{Change}

-- the changes are of commits past `from` and up to `to`, and their numbers don't fall
pub record IsTail (from to : ℕ) (changes : List Change) : Type 0 where
  pub rises : from ≤ to
  pub within : All (λ change. (from < change.number) × (change.number ≤ to)) changes
  pub in_order : AllAdjacentBelow (λ change next. change.number ≤ next.number) changes (length changes)
