use Rattle.txn_lang.proofs.Observed.{runs_ask_short as lemma}
use Rattle.txn_lang.proofs.laws.runs_ask_short.Goals as goal

pub returns : goal.returns
returns c = lemma
