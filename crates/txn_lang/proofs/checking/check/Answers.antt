use Rattle.txn_lang.proofs.Trees.{tree_of_typed}
use Rattle.txn_lang.proofs.checking.check.Goals as goal

-- what was read and is well typed is the source's tree
pub invariant_of-result-clause-read : goal.invariant_of-result-clause-read
invariant_of-result-clause-read c = ∣ tree_of_typed c.args.source c.args.body c.requires c.in-Ok.ensures ∣₁
