use Rattle.std.proofs.Common.{◌≡◌, ◌≤◌, ◌+◌, ◌*◌, drop, length}
use Rattle.abort_witness.specs.Pairs.{lesser, least_from, least}
use Rattle.abort_witness.proofs.finding.least.Given as goal

-- what was found so far, and what is found behind it, are what is found in all
abbrev pub invariant-loop-place : goal.invariant-loop-place
invariant-loop-place g l =
    (lesser l.found (least_from l.place (drop l.place l.fn.based) l.fn.tail.changes) ≡ least l.fn.based l.fn.tail.changes)
    × (l.steps ≤ l.fn.steps + l.place * length l.fn.tail.changes)
