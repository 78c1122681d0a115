use Rattle.txn_lang.proofs.Typing.{types_are_found as lemma}
use Rattle.txn_lang.proofs.laws.types_are_found.Goals as goal

pub returns : goal.returns
returns c = lemma
