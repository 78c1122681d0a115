use Rattle.std.proofs.Common.{ℕ, Some, subst, ◌∙◌}
use Rattle.slab.specs.Slab as slab
use Rattle.edge_slab.proofs.Linking.{pushed_links}
use Rattle.edge_slab.proofs.links.Links.push.Goals as goal

pub returns : goal.returns
returns c all are =
    pushed_links c.args.self.now (record { edges = c.insert_reserved.new.self; at_place = c.push.new.self; of_subscriber = c.push-2.new.self })
    c.args.edge c.args.key all are c.requires.vacant
    (subst (λ (k : ℕ). slab.Updates c.args.self.now.edges c.insert_reserved.new.self k (Some c.args.edge))
    (c.insert_reserved.ensures.key ∙ c.requires.next) c.insert_reserved.ensures.updates)
    c.insert_reserved.ensures.len c.push.ensures c.push-2.ensures
