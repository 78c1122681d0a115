use Rattle.docc_prepare.proofs.StepDoes.{steps_may_be_done as lemma}
use Rattle.docc_prepare.proofs.store_laws.steps_may_be_done.Goals as goal

pub returns : goal.returns
returns c = lemma
