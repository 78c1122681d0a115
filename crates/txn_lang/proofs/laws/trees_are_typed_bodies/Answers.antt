use Rattle.txn_lang.proofs.Trees.{trees_are_typed_bodies as lemma}
use Rattle.txn_lang.proofs.laws.trees_are_typed_bodies.Goals as goal

pub returns : goal.returns
returns c = lemma
