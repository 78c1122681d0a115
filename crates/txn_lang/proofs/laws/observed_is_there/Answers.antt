use Rattle.txn_lang.proofs.Observed.{observed_is_there as lemma}
use Rattle.txn_lang.proofs.laws.observed_is_there.Goals as goal

pub returns : goal.returns
returns c = lemma
