use Rattle.std.proofs.Common.{◌≡◌, ◌++◌, drop}
use Rattle.journal_core.specs.Changes.{changes_by}
use Rattle.journal_core.proofs.copying.changes_by.Given as goal

-- the changes so far, and those by the rest, are all
abbrev pub invariant-loop-address : goal.invariant-loop-address
invariant-loop-address l = l.changes.items ++ changes_by l.number (drop l.address-index l.deltas) ≡ changes_by l.fn.number l.fn.deltas
