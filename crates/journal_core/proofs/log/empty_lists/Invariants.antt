use Rattle.std.proofs.Common.{◌≡◌, ℕ, [], length}
use Rattle.journal_core.specs.code.ByShard.{list_at}
use Rattle.journal_core.proofs.log.empty_lists.Given as goal

-- so many lists, and no change in any
abbrev pub invariant-loop : goal.invariant-loop
invariant-loop l = (length l.lists.items ≡ l.counter) × ((place : ℕ) → list_at l.lists.items place ≡ [])
