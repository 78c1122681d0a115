use Rattle.std.proofs.Common.{false, not, is_some, sym, ap, subst}
use Rattle.std.specs.BTreeMap.{is_at}
use Rattle.rdt_types.specs.Addresses.{address_cmp}
use Rattle.reactive_registry.specs.Registered.{Kept}
use Rattle.reactive_registry.proofs.Pairs.{linked_pair, UpTo, up_to-filter}
use Rattle.reactive_registry.proofs.registry.Registry.unsubscribe.Goals as goal

pub invariant_of-self-in-Some : goal.invariant_of-self-in-Some
invariant_of-self-in-Some c =
    let inside = c.self.inside in
    let kept = c.in-Some.kept.now in
    let kept' = c.unsubscribe.new.self in
    linked_pair inside.front inside.subscribers.entries (c.get_mut.follows.lender kept').entries inside.places c.unlink.new.self
    c.args.subscriber c.args.address.now kept kept' false c.self.invariant (sym c.in-Some.ensures.value)
    (((c.get_mut.follows.holds kept').3 (ap is_some (sym c.in-Some.ensures.value))).0)
    c.unsubscribe.ensures.has
    (subst (λ (k : Kept). UpTo inside.front k.changes) (sym c.unsubscribe.ensures.kept)
    (up_to-filter inside.front (λ change. not (is_at (address_cmp c.args.address.now) change.address)) kept.changes
    (c.self.invariant.followed c.args.subscriber kept (sym c.in-Some.ensures.value))))
    c.unlink.ensures
