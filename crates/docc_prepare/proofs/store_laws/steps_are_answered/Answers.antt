use Rattle.docc_prepare.proofs.Answered.{steps_are_answered as lemma}
use Rattle.docc_prepare.proofs.store_laws.steps_are_answered.Goals as goal

pub returns : goal.returns
returns c = lemma
