use Rattle.docc_prepare.proofs.Elsewhere.{shards_follow as lemma}
use Rattle.docc_prepare.proofs.store_laws.shards_follow.Goals as goal

pub returns : goal.returns
returns c = lemma
