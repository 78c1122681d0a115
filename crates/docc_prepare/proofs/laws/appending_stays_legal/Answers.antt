use Rattle.docc_prepare.proofs.Undisturbed.{appending_stays_legal as lemma}
use Rattle.docc_prepare.proofs.laws.appending_stays_legal.Goals as goal

pub returns : goal.returns
returns c = lemma
