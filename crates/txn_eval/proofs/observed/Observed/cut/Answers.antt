use Rattle.txn_eval.specs.declared.observed.TheConstants.{LOOKED_THROUGH}
use Rattle.txn_eval.proofs.FoundKept.{found-cut}
use Rattle.txn_eval.proofs.observed.Observed.cut.Goals as goal

pub invariant_of-self : goal.invariant_of-self
invariant_of-self c = found-cut LOOKED_THROUGH c.args.count c.self.inside.places c.self.inside.list c.truncate.new.self c.self.invariant c.truncate.ensures
