use Rattle.txn_lang.proofs.Determinacy.{runs_are_bounded as lemma}
use Rattle.txn_lang.proofs.laws.runs_are_bounded.Goals as goal

pub returns : goal.returns
returns c = lemma
