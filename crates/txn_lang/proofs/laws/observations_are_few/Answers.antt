use Rattle.txn_lang.proofs.Few.{observations_are_few as lemma}
use Rattle.txn_lang.proofs.laws.observations_are_few.Goals as goal

pub returns : goal.returns
returns c = lemma
