use Rattle.std.proofs.Common.{◌+◌, ◌*◌}
use Rattle.par_rerun.proofs.parallel.+fn-run_from-join+arg3+run_from.Given as goal

-- a call begins with its part, and comes to the others by its closure
abbrev pub decreases-run_from : goal.decreases-run_from
decreases-run_from g l = 2 * l.part.behind

abbrev pub decreases-join+arg3 : goal.decreases-join+arg3
decreases-join+arg3 g l = 2 * l.others.behind + 1
