use Rattle.txn_lang.proofs.Typing.{bodies_are_judged as lemma}
use Rattle.txn_lang.proofs.laws.bodies_are_judged.Goals as goal

pub returns : goal.returns
returns c = lemma
