use Rattle.docc_prepare.proofs.Elsewhere.{steps_leave_others as lemma}
use Rattle.docc_prepare.proofs.store_laws.steps_leave_others.Goals as goal

pub returns : goal.returns
returns c = lemma
