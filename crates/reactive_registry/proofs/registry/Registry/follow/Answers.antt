use Rattle.std.proofs.Common.{◌≡◌, option_map, sym, ap, ◌∙◌, subst}
use Rattle.change_feed.specs.Tails.{IsTail}
use Rattle.reactive_registry.specs.Registered.{Registered, kept_in, kept_of, told}
use Rattle.reactive_registry.proofs.Undone.{told_each, linked_told}
use Rattle.reactive_registry.proofs.registry.Registry.follow.Goals as goal

-- both directions stay linked: each is told of what is at its addresses
pub invariant_of-self-2 : goal.invariant_of-self-2
invariant_of-self-2 c =
    let inside = c.self.inside in
    let es = inside.subscribers.entries in
    let tail = c.args.tail.now in
    let from : tail.from ≡ inside.front = c.requires ∙ sym (ap (λ (r : Registered). r.front) c.self.view_is) in
    linked_told inside.front tail.to tail.changes (subst (λ n. IsTail n tail.to tail.changes) from tail.in_order) es
    c.tell_or_undo.new.subscribers.entries inside.places c.self.invariant
    (λ q.
    c.in_ok-tell_or_undo.ensures.ok q
    ∙ told_each inside.places q tail.changes (kept_in es q) (c.self.invariant.both_ways q))

pub returns-clause-ok : goal.returns-clause-ok
returns-clause-ok c s =
    let inside = c.self.inside in
    let es = inside.subscribers.entries in
    let tail = c.args.tail.now in
    c.in_ok-tell_or_undo.ensures.ok s
    ∙ told_each inside.places s tail.changes (kept_in es s) (c.self.invariant.both_ways s)
    ∙ ap (λ (r : Registered). option_map (told tail.changes) (kept_of r s)) c.self.view_is
