use Rattle.std.proofs.Common.{◌≡◌, drop}
use Rattle.docc_prepare.specs.Attempts.{least_unprepared}
use Rattle.docc_prepare.proofs.Lowest.{lesser_of}
use Rattle.docc_prepare.proofs.observed.least_unprepared.Given as goal

-- the lesser of what was found and the least of the rest is the least of all
abbrev pub invariant-loop-seen : goal.invariant-loop-seen
invariant-loop-seen l =
    lesser_of l.found (least_unprepared l.fn.shards l.fn.fronts (drop l.seen-index l.observations)) ≡ least_unprepared l.fn.shards l.fn.fronts l.fn.observations
