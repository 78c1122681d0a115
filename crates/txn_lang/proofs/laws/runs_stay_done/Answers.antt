use Rattle.txn_lang.proofs.Observed.{runs_stay_done as lemma}
use Rattle.txn_lang.proofs.laws.runs_stay_done.Goals as goal

pub returns : goal.returns
returns c = lemma
