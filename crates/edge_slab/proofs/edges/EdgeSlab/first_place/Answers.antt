use Rattle.std.proofs.Common.{ap, ◌∙◌}
use Rattle.edge_slab.specs.Edges.{is_in}
use Rattle.edge_slab.proofs.Keeping.{none_left}
use Rattle.edge_slab.proofs.edges.EdgeSlab.first_place.Goals as goal

pub returns-clause-none : goal.returns-clause-none
returns-clause-none c =
    none_left c.next.result c.walk_subscriber-walk.result c.next.new.self _ c.next.ensures.steps
    (λ none place. c.walk_subscriber-walk.ensures.both_ways place ∙ ap (is_in place) none)
