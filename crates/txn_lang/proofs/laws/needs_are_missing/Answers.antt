use Rattle.txn_lang.proofs.Observed.{needs_are_missing as lemma}
use Rattle.txn_lang.proofs.laws.needs_are_missing.Goals as goal

pub returns : goal.returns
returns c = lemma
