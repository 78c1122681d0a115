use Rattle.std.proofs.Common.{true, not, [], ◌∷◌, ◌++◌, sym, ap, subst, ◌∙◌}
use Rattle.std.specs.Map.{lookup}
use Rattle.edge_slab.specs.Edges.{Edges, is_linked, SameEdges, IsLinked}
use Rattle.edge_slab.specs.Links.{edges_of, edge_from, linked_as, pair_eq}
use Rattle.edge_slab.proofs.Keeping.{linked_key, same_edges, same_kept, more_edges, more_kept, on_err, nothing}
use Rattle.edge_slab.proofs.edges.EdgeSlab.link.Goals as goal

pub returns-then-contains_key-clause-answer : goal.returns-then-contains_key-clause-answer
returns-then-contains_key-clause-answer c =
    let inside = c.self.inside in
    let s = c.args.subscriber in
    let p = c.args.place in
    ap not (sym c.if-contains_key.true ∙ c.contains_key.ensures ∙ linked_key inside.links inside.keys c.self.invariant.0 c.self.invariant.1 s p
    ∙ ap (λ (e : Edges). is_linked e s p) c.self.view_is)

-- for want of memory the links are those of the same pairs
pub returns-in_err-key-clause-err : goal.returns-in_err-key-clause-err
returns-in_err-key-clause-err c =
    let inside = c.self.inside in
    let all = c.self.invariant in
    on_err c.from_residual.result _
    (subst (λ (e : Edges). SameEdges e (edges_of c.make_room.new.self)) c.self.view_is
    (same_edges inside.links inside.keys all.0 all.1 c.make_room.new.self (c.make_room.ensures.same all.0 all.1.are_links)))

pub invariant_of-self-in_err-insert : goal.invariant_of-self-in_err-insert
invariant_of-self-in_err-insert c =
    let inside = c.self.inside in
    let all = c.self.invariant in (
      all.0,
      same_kept inside.links inside.keys all.0 all.1 c.make_room.new.self c.insert.new.self (c.make_room.ensures.same all.0 all.1.are_links)
          (λ q. ap (lookup (pair_eq q)) c.in_err-insert.ensures.err),
    )

pub returns-in_err-insert-clause-err : goal.returns-in_err-insert-clause-err
returns-in_err-insert-clause-err c =
    let inside = c.self.inside in
    let all = c.self.invariant in
    on_err c.from_residual-in_err-insert.result _
    (subst (λ (e : Edges). SameEdges e (edges_of c.make_room.new.self)) c.self.view_is
    (same_edges inside.links inside.keys all.0 all.1 c.make_room.new.self (c.make_room.ensures.same all.0 all.1.are_links)))

-- the pair is behind all others
pub invariant_of-self-2 : goal.invariant_of-self-2
invariant_of-self-2 c =
    let inside = c.self.inside in
    let all = c.self.invariant in
    let s = c.args.subscriber in
    let p = c.args.place in
    let key = c.in_ok-key.key in (
      all.0 ++ linked_as (edge_from s p) key ∷ [],
      more_kept inside.links inside.keys all.0 all.1 c.push.new.self c.insert.new.self s p key
          (nothing _ (sym c.contains_key.ensures ∙ c.if-contains_key.false))
          (c.push.ensures all.0 (c.make_room.ensures.same all.0 all.1.are_links)) c.in_ok-insert.ensures.updates.0,
    )

pub returns-clause-answer : goal.returns-clause-answer
returns-clause-answer c =
    let inside = c.self.inside in
    let s = c.args.subscriber in
    let p = c.args.place in
    ap not (sym c.if-contains_key.false ∙ c.contains_key.ensures ∙ linked_key inside.links inside.keys c.self.invariant.0 c.self.invariant.1 s p
    ∙ ap (λ (e : Edges). is_linked e s p) c.self.view_is)

pub returns-clause-ok : goal.returns-clause-ok
returns-clause-ok c =
    let inside = c.self.inside in
    let all = c.self.invariant in
    let s = c.args.subscriber in
    let p = c.args.place in
    subst (λ (e : Edges). IsLinked true e s p (edges_of c.push.new.self)) c.self.view_is
    (more_edges inside.links inside.keys all.0 all.1 c.push.new.self c.insert.new.self s p c.in_ok-key.key
    (nothing _ (sym c.contains_key.ensures ∙ c.if-contains_key.false))
    (c.push.ensures all.0 (c.make_room.ensures.same all.0 all.1.are_links)))
