use Rattle.docc_prepare.proofs.Laters.{others_count_as_within as lemma}
use Rattle.docc_prepare.proofs.store_laws.others_count_as_within.Goals as goal

pub returns : goal.returns
returns c = lemma
