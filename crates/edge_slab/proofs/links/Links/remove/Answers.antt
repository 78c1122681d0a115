use Rattle.std.proofs.Common.{is_some, ap, ◌∙◌}
use Rattle.edge_slab.proofs.Linking.{removed_links, under_held, some_taken}
use Rattle.edge_slab.proofs.links.Links.remove.Goals as goal

pub returns : goal.returns
returns c all are has =
    removed_links c.args.self.now (record { edges = c.try_remove.new.self; at_place = c.remove.new.self; of_subscriber = c.remove-2.new.self })
    c.args.key all are has c.try_remove.ensures.updates
    (some_taken c.try_remove.result (ap is_some c.try_remove.ensures.value ∙ under_held c.args.self.now c.args.key all are has) c.try_remove.ensures.len)
    c.remove.ensures c.remove-2.ensures
