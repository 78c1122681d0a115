use Rattle.txn_lang.proofs.Observed.{whole_runs_are_done as lemma}
use Rattle.txn_lang.proofs.laws.whole_runs_are_done.Goals as goal

pub returns : goal.returns
returns c = lemma
