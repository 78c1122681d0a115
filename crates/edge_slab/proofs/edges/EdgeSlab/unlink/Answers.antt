use Rattle.std.proofs.Common.{is_some, sym, ap, subst, ◌∙◌}
use Rattle.edge_slab.specs.Edges.{Edges, is_linked, IsUnlinked}
use Rattle.edge_slab.specs.Links.{edges_of, but}
use Rattle.edge_slab.proofs.Keeping.{linked_key, under, less_edges, less_kept, nothing_less}
use Rattle.edge_slab.proofs.edges.EdgeSlab.unlink.Goals as goal

pub invariant_of-self-in-Some : goal.invariant_of-self-in-Some
invariant_of-self-in-Some c =
    let inside = c.self.inside in
    let all = c.self.invariant in
    let s = c.args.subscriber in
    let p = c.args.place in
    let key = c.in-Some.key in
    let had = sym c.remove.ensures.value ∙ c.in-Some.is in (
      but key all.0,
      less_kept inside.links inside.keys all.0 all.1 c.remove-in-Some.new.self c.remove.new.self s p key had
          (c.remove-in-Some.ensures all.0 all.1.are_links (under inside.links inside.keys all.0 all.1 s p key had)) c.remove.ensures.updates.0,
    )

-- a pair without a key isn't linked
pub returns-in-None-clause-answer : goal.returns-in-None-clause-answer
returns-in-None-clause-answer c =
    let inside = c.self.inside in
    let s = c.args.subscriber in
    let p = c.args.place in
    ap is_some (sym c.in-None.is ∙ c.remove.ensures.value)
    ∙ linked_key inside.links inside.keys c.self.invariant.0 c.self.invariant.1 s p
    ∙ ap (λ (e : Edges). is_linked e s p) c.self.view_is

pub returns-in-None-clause-gone : goal.returns-in-None-clause-gone
returns-in-None-clause-gone c =
    let inside = c.self.inside in
    let s = c.args.subscriber in
    let p = c.args.place in
    subst (λ (e : Edges). IsUnlinked e s p (edges_of inside.links)) c.self.view_is
    (nothing_less inside.links inside.keys c.self.invariant.0 c.self.invariant.1 s p (sym c.remove.ensures.value ∙ c.in-None.is))

pub returns-in-Some-clause-answer : goal.returns-in-Some-clause-answer
returns-in-Some-clause-answer c =
    let inside = c.self.inside in
    let s = c.args.subscriber in
    let p = c.args.place in
    ap is_some (sym c.in-Some.is ∙ c.remove.ensures.value)
    ∙ linked_key inside.links inside.keys c.self.invariant.0 c.self.invariant.1 s p
    ∙ ap (λ (e : Edges). is_linked e s p) c.self.view_is

pub returns-in-Some-clause-gone : goal.returns-in-Some-clause-gone
returns-in-Some-clause-gone c =
    let inside = c.self.inside in
    let all = c.self.invariant in
    let s = c.args.subscriber in
    let p = c.args.place in
    let key = c.in-Some.key in
    let had = sym c.remove.ensures.value ∙ c.in-Some.is in
    subst (λ (e : Edges). IsUnlinked e s p (edges_of c.remove-in-Some.new.self)) c.self.view_is
    (less_edges inside.links inside.keys all.0 all.1 c.remove-in-Some.new.self c.remove.new.self s p key had
    (c.remove-in-Some.ensures all.0 all.1.are_links (under inside.links inside.keys all.0 all.1 s p key had)))
