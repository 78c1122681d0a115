use Rattle.std.proofs.Common.{ap}
use Rattle.edge_slab.specs.declared.chains.Ties.{Ties}
use Rattle.edge_slab.proofs.Chained.{pushed_chains}
use Rattle.edge_slab.proofs.chains.Chains.push.Goals as goal

pub returns : goal.returns
returns c lists are lacks n =
    pushed_chains c.args.self.now c.tie.new.self c.tie-2.new.self c.args.list c.args.key c.ties_of-last.result.last c.requires
    (ap (λ (t : Ties). t.last) c.ties_of-last.ensures) c.tie.ensures c.tie-2.ensures lists are lacks n
