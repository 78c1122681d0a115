use Rattle.std.proofs.Common.{true, cond, ◌&&◌, ap, ◌∙◌}
use Rattle.std.specs.Ordering.{nat_cmp}
use Rattle.std.specs.BTreeMap.{is_at}
use Rattle.rdt_types.specs.Addresses.{address_cmp}
use Rattle.edge_slab.proofs.Membership.{same-is}
use Rattle.reactive_registry.specs.Placed.{Placed, number_in}
use Rattle.reactive_registry.specs.Places.{with_link}
use Rattle.reactive_registry.proofs.Links.{relinked, numbers_relinked, numbers_same, linked_now}
use Rattle.reactive_registry.proofs.places.Places.link.Goals as goal

pub invariant_of-self : goal.invariant_of-self
invariant_of-self c =
    let inside = c.self.inside in
    let k = c.args.address.now in
    let n = c.in_ok-number.number in
    numbers_relinked inside.numbers.entries inside.given inside.edges c.self.invariant c.link.new.self k n c.args.subscriber true
    (ap (λ (p : Placed). number_in p.numbers k) c.self.view_is ∙ c.in_ok-number.ensures.number)
    (linked_now inside.edges c.link.new.self c.args.subscriber n _ c.in-Ok.ensures.answer c.in-Ok.ensures.ok)

pub invariant_of-self-in-Err : goal.invariant_of-self-in-Err
invariant_of-self-in-Err c =
    let inside = c.self.inside in
    numbers_same inside.numbers.entries inside.given inside.edges c.self.invariant c.link.new.self
    (same-is inside.edges c.link.new.self c.in-Err.ensures.err)

pub returns-in-Ok-clause-ok : goal.returns-in-Ok-clause-ok
returns-in-Ok-clause-ok c a t =
    let inside = c.self.inside in
    let k = c.args.address.now in
    let s = c.args.subscriber in
    let n = c.in_ok-number.number in
    relinked inside.numbers.entries inside.given inside.edges c.self.invariant c.link.new.self k n s true
    (ap (λ (p : Placed). number_in p.numbers k) c.self.view_is ∙ c.in_ok-number.ensures.number)
    (linked_now inside.edges c.link.new.self s n _ c.in-Ok.ensures.answer c.in-Ok.ensures.ok) a t
    ∙ ap (λ (p : Placed). with_link p k s true a t) c.self.view_is
    ∙ ap (cond (is_at (address_cmp k) a && is_at (nat_cmp s) t) true) (c.in_ok-number.ensures.same a t)
