use Rattle.txn_lang.proofs.Observed.{needs_stay as lemma}
use Rattle.txn_lang.proofs.laws.needs_stay.Goals as goal

pub returns : goal.returns
returns c = lemma
