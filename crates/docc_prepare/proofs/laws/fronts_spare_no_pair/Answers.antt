use Rattle.docc_prepare.proofs.Fronts.{fronts_spare_no_pair as lemma}
use Rattle.docc_prepare.proofs.laws.fronts_spare_no_pair.Goals as goal

pub returns : goal.returns
returns c = lemma
