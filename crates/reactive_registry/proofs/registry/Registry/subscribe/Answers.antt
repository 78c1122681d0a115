use Rattle.std.proofs.Common.{◌≡◌, is_some, sym, ap, ◌∙◌, subst}
use Rattle.reactive_registry.proofs.Pairs.{UpTo, up_to-tail}
use Rattle.reactive_registry.proofs.Subscribing.{linked_subscribed}
use Rattle.reactive_registry.proofs.registry.Registry.subscribe.Goals as goal

pub invariant_of-self-in-Some : goal.invariant_of-self-in-Some
invariant_of-self-in-Some c =
    let inside = c.self.inside in
    let kept' = c.subscribe_pair.new.kept in
    let missed = c.args.missed.now in
    let front : missed.to ≡ inside.front = c.requires.missed ∙ sym (ap (λ r. r.front) c.self.view_is) in
    linked_subscribed c.subscribe_pair.result inside.front inside.subscribers.entries (c.get_mut.follows.lender kept').entries
    inside.places c.subscribe_pair.new.places c.args.subscriber c.args.address.now missed.changes c.in-Some.kept.now kept'
    c.self.invariant (sym c.in-Some.ensures.value)
    (((c.get_mut.follows.holds kept').3 (ap is_some (sym c.in-Some.ensures.value))).0)
    (subst (λ n. UpTo n missed.changes) front (up_to-tail missed.from missed.to missed.changes missed.in_order))
    c.subscribe_pair.ensures.kept c.subscribe_pair.ensures.has c.subscribe_pair.ensures.places
    c.subscribe_pair.ensures.as_kept c.subscribe_pair.ensures.as_placed
