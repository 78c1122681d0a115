use Rattle.std.proofs.Common.{refl}
use Rattle.edge_slab.proofs.Chained.{same_chains, ties_same}
use Rattle.edge_slab.proofs.chains.Chains.make_room.Goals as goal

pub returns-in_err-reach_key-clause-same : goal.returns-in_err-reach_key-clause-same
returns-in_err-reach_key-clause-same c lists are n =
    same_chains c.args.self.now (record { ends = c.args.self.now.ends; ties = c.reach_key.new.ties })
    (ties_same c.args.self.now (record { ends = c.args.self.now.ends; ties = c.reach_key.new.ties }) (λ m. refl) c.reach_key.ensures.same) lists are n

pub returns-clause-same : goal.returns-clause-same
returns-clause-same c lists are n =
    same_chains c.args.self.now (record { ends = c.reach_end.new.ends; ties = c.reach_key.new.ties })
    (ties_same c.args.self.now (record { ends = c.reach_end.new.ends; ties = c.reach_key.new.ties }) c.reach_end.ensures.same c.reach_key.ensures.same)
    lists are n
