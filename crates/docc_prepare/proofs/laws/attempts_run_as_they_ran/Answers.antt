use Rattle.docc_prepare.proofs.Undisturbed.{runs_as_it_ran}
use Rattle.docc_prepare.proofs.laws.attempts_run_as_they_ran.Goals as goal

pub returns : goal.returns
returns c = runs_as_it_ran
