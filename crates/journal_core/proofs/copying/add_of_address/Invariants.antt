use Rattle.std.proofs.Common.{◌≡◌, ◌++◌, drop}
use Rattle.journal_core.specs.Changes.{of_address}
use Rattle.journal_core.proofs.copying.add_of_address.Given as goal

-- what was added, and what is to be added of the rest, are all
abbrev pub invariant-loop-change : goal.invariant-loop-change
invariant-loop-change l = l.list ++ of_address l.address (drop l.change-index l.changes) ≡ l.fn.list ++ of_address l.fn.address l.fn.changes
