use Rattle.std.proofs.Common.{◌≡◌, drop}
use Rattle.docc_prepare.specs.Attempts.{based}
use Rattle.remote_service.specs.Anew.{fronts_for, fronts_on}
use Rattle.remote_service.proofs.anew.fronts_for.Given as goal

-- the fronts so far, and those of the rest, are those of all
abbrev pub invariant-loop-seen : goal.invariant-loop-seen
invariant-loop-seen l = fronts_for l.fn.kept l.fn.attempt.shards l.fn.attempt.snaps l.fn.run.observations
    ≡ fronts_on l.fn.kept l.fn.attempt.shards (based l.fn.attempt.snaps l.fn.run.observations) (drop l.seen-index l.fn.run.observations) l.fronts
