use Rattle.std.proofs.Common.{nat_eq, sym, ap, subst, ◌∙◌}
use Rattle.std.specs.List.{IsDistinct}
use Rattle.edge_slab.specs.Edges.{Edges, is_in, is_linked, places_of}
use Rattle.edge_slab.proofs.Walking.{places-walked, places-across}
use Rattle.edge_slab.proofs.Keeping.{linked_at, linked_of}
use Rattle.edge_slab.proofs.edges.EdgeSlab.walk_subscriber.Goals as goal

pub returns-clause-all : goal.returns-clause-all
returns-clause-all c =
    c.walk.ensures ∙ sym (places-walked c.self.inside.links c.args.subscriber) ∙ ap (λ (e : Edges). places_of e c.args.subscriber) c.self.view_is

pub returns-clause-once : goal.returns-clause-once
returns-clause-once c =
    let links = c.self.inside.links in
    subst (IsDistinct nat_eq)
    (sym (c.walk.ensures ∙ sym (places-walked links c.args.subscriber)
    ∙ places-across links c.self.invariant.0 c.self.invariant.1.are_links c.args.subscriber))
    (c.self.invariant.1.once_of c.args.subscriber)

-- both directions have the same pairs
pub returns-clause-both_ways : goal.returns-clause-both_ways
returns-clause-both_ways c place =
    let inside = c.self.inside in
    let all = c.self.invariant in
    let s = c.args.subscriber in
    sym (ap (λ (e : Edges). is_linked e s place) c.self.view_is)
    ∙ linked_at inside.links inside.keys all.0 all.1 s place
    ∙ sym (linked_of inside.links inside.keys all.0 all.1 s place)
    ∙ ap (is_in place) (places-walked inside.links s ∙ sym c.walk.ensures)
