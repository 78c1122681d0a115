use Rattle.std.proofs.Common.{subst}
use Rattle.edge_slab.specs.declared.chains.Ties.{Ties}
use Rattle.edge_slab.specs.Chains.{IsTied}
use Rattle.edge_slab.proofs.Chained.{removed_chains}
use Rattle.edge_slab.proofs.chains.Chains.remove.Goals as goal

pub returns : goal.returns
returns c lists list are has n =
    removed_chains c.args.self.now c.tie.new.self c.tidy.new.self c.args.key
    (subst (λ (t : Ties). IsTied c.args.self.now t.last t.next c.tie.new.self) c.ties_of-ties.ensures c.tie.ensures) c.tidy.ensures
    lists list are has n
