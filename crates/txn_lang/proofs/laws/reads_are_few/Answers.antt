use Rattle.txn_lang.proofs.Few.{reads_are_few as lemma}
use Rattle.txn_lang.proofs.laws.reads_are_few.Goals as goal

pub returns : goal.returns
returns c = lemma
