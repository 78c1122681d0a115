use Rattle.std.proofs.Common.{◌≡◌, ◌++◌, drop}
use Rattle.docc_prepare.specs.Attempts.{based}
use Rattle.docc_prepare.proofs.observed.based.Given as goal

-- what is there, and then the rest, are all
abbrev pub invariant-loop-seen : goal.invariant-loop-seen
invariant-loop-seen l = l.all ++ based l.fn.snaps (drop l.seen-index l.observations) ≡ based l.fn.snaps l.fn.observations
