use Rattle.std.proofs.Common.{◌≡◌, ◌≤◌, ◌+◌, drop}
use Rattle.abort_witness.specs.Pairs.{lesser, least_from, least}
use Rattle.journal_core.specs.Changes.{changes}
use Rattle.journal_core.specs.Pairs.{past_fronts, most_steps}
use Rattle.journal_core.proofs.deciding.least_past.Given as goal

-- what was found so far, and what is found behind it, are what is found in all; the steps of the rest are left
abbrev pub invariant-loop-place : goal.invariant-loop-place
invariant-loop-place g l =
    (lesser l.found (least_from l.place (past_fronts l.fn.log.shards l.fn.fronts (drop l.place l.fn.based)) (changes l.fn.log.commits))
    ≡ least (past_fronts l.fn.log.shards l.fn.fronts l.fn.based) (changes l.fn.log.commits))
    × (l.steps + most_steps (past_fronts l.fn.log.shards l.fn.fronts (drop l.place l.fn.based)) (changes l.fn.log.commits)
    ≤ l.fn.steps + most_steps (past_fronts l.fn.log.shards l.fn.fronts l.fn.based) (changes l.fn.log.commits))
