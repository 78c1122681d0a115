use Rattle.txn_lang.proofs.Trees.{tree_read}
use Rattle.audit_core.proofs.reading.as_read.Goals as goal

pub invariant_of-result-clause-read : goal.invariant_of-result-clause-read
invariant_of-result-clause-read c = ∣ c.requires ∣₁

-- what has a tree is well typed
pub invariant_of-result-clause-typed : goal.invariant_of-result-clause-typed
invariant_of-result-clause-typed c = ∣ (tree_read c.args.source c.args.body c.requires).1 ∣₁
