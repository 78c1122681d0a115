use Rattle.std.proofs.Common.{nat_eq, sym, ap, subst, ◌∙◌}
use Rattle.std.specs.List.{IsDistinct}
use Rattle.edge_slab.specs.Edges.{Edges, subscribers_at}
use Rattle.edge_slab.proofs.Walking.{subscribers-walked, subscribers-across}
use Rattle.edge_slab.proofs.edges.EdgeSlab.walk_address.Goals as goal

pub returns-clause-all : goal.returns-clause-all
returns-clause-all c =
    c.walk.ensures ∙ sym (subscribers-walked c.self.inside.links c.args.place) ∙ ap (λ (e : Edges). subscribers_at e c.args.place) c.self.view_is

pub returns-clause-once : goal.returns-clause-once
returns-clause-once c =
    let links = c.self.inside.links in
    subst (IsDistinct nat_eq)
    (sym (c.walk.ensures ∙ sym (subscribers-walked links c.args.place)
    ∙ subscribers-across links c.self.invariant.0 c.self.invariant.1.are_links c.args.place))
    (c.self.invariant.1.once_at c.args.place)
