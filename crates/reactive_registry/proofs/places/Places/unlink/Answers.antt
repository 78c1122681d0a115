use Rattle.std.proofs.Common.{false, sym, ap, ◌∙◌}
use Rattle.edge_slab.proofs.Membership.{unlinked-is}
use Rattle.reactive_registry.specs.Placed.{Placed, number_in}
use Rattle.reactive_registry.specs.Places.{with_link}
use Rattle.reactive_registry.proofs.Links.{relinked, numbers_relinked, nowhere}
use Rattle.reactive_registry.proofs.places.Places.unlink.Goals as goal

pub invariant_of-self : goal.invariant_of-self
invariant_of-self c =
    let inside = c.self.inside in
    let k = c.args.address.now in
    let n = c.in-Some.number in
    numbers_relinked inside.numbers.entries inside.given inside.edges c.self.invariant c.unlink.new.self k n c.args.subscriber false
    (ap (λ (p : Placed). number_in p.numbers k) c.self.view_is ∙ sym c.number.ensures ∙ c.in-Some.is)
    (unlinked-is inside.edges c.unlink.new.self c.args.subscriber n c.unlink.ensures.gone)

pub returns-in-Some : goal.returns-in-Some
returns-in-Some c a t =
    let inside = c.self.inside in
    let k = c.args.address.now in
    let n = c.in-Some.number in
    c.give_back.ensures a t
    ∙ relinked inside.numbers.entries inside.given inside.edges c.self.invariant c.unlink.new.self k n c.args.subscriber false
    (ap (λ (p : Placed). number_in p.numbers k) c.self.view_is ∙ sym c.number.ensures ∙ c.in-Some.is)
    (unlinked-is inside.edges c.unlink.new.self c.args.subscriber n c.unlink.ensures.gone) a t
    ∙ ap (λ (p : Placed). with_link p k c.args.subscriber false a t) c.self.view_is

pub returns-in_default : goal.returns-in_default
returns-in_default c a t =
    let places = c.args.self.now in
    nowhere places.numbers places.edges c.args.address.now (sym c.number.ensures ∙ c.in_default.is) c.args.subscriber a t
