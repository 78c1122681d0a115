use Rattle.std.proofs.Common.{◌≡◌, ◌≤◌, ◌+◌, drop, filter, length}
use Rattle.abort_witness.specs.Pairs.{meets, first_clash}
use Rattle.abort_witness.proofs.finding.first_clash.Given as goal

-- none of the changes so far clashes, and a step is left for each of the others that may be met
abbrev pub invariant-loop-change : goal.invariant-loop-change
invariant-loop-change g l =
    (first_clash l.based (drop l.change-index l.changes) ≡ first_clash l.fn.based l.fn.changes)
    × (l.steps + length (filter (meets l.based) (drop l.change-index l.changes)) ≤ l.fn.steps + length (filter (meets l.fn.based) l.fn.changes))
    × (l.steps ≤ l.fn.steps + l.change-index)
