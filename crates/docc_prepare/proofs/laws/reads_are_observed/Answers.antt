use Rattle.docc_prepare.proofs.Asked.{reads_are_observed}
use Rattle.docc_prepare.proofs.laws.reads_are_observed.Goals as goal

pub returns : goal.returns
returns c = reads_are_observed
