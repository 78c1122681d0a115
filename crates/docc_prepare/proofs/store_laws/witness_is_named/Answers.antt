use Rattle.docc_prepare.proofs.Least.{witness_is_named as lemma}
use Rattle.docc_prepare.proofs.store_laws.witness_is_named.Goals as goal

pub returns : goal.returns
returns c = lemma
