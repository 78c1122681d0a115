use Rattle.std.proofs.Common.{sym, ap, ◌∙◌}
use Rattle.reactive_registry.specs.Placed.{Placed, number_in}
use Rattle.reactive_registry.specs.Places.{links}
use Rattle.reactive_registry.proofs.Links.{numbers_for, stands_for, number_is}
use Rattle.reactive_registry.proofs.places.Places.number_for.Goals as goal

pub invariant_of-self : goal.invariant_of-self
invariant_of-self c =
    let inside = c.self.inside in
    let k = c.args.address.now in
    let e = c.new_number.ensures in
    numbers_for c.new_number.result inside.numbers.entries c.new_number.new.numbers.entries inside.given c.new_number.new.given inside.edges k
    c.self.invariant (ap (λ (p : Placed). number_in p.numbers k) c.self.view_is ∙ sym c.number.ensures ∙ c.in-None.is)
    e.fresh e.numbers e.given e.as_numbered e.as_given

pub returns-in-None-clause-number : goal.returns-in-None-clause-number
returns-in-None-clause-number c =
    let inside = c.self.inside in
    let k = c.args.address.now in
    let e = c.new_number.ensures in
    number_is c.new_number.result inside.numbers.entries c.new_number.new.numbers.entries inside.given c.new_number.new.given inside.edges k
    c.self.invariant (ap (λ (p : Placed). number_in p.numbers k) c.self.view_is ∙ sym c.number.ensures ∙ c.in-None.is)
    e.fresh e.numbers e.given e.as_numbered e.as_given

pub returns-in-None-clause-same : goal.returns-in-None-clause-same
returns-in-None-clause-same c a t =
    let inside = c.self.inside in
    let k = c.args.address.now in
    let e = c.new_number.ensures in
    stands_for c.new_number.result inside.numbers.entries c.new_number.new.numbers.entries inside.given c.new_number.new.given inside.edges k
    c.self.invariant (ap (λ (p : Placed). number_in p.numbers k) c.self.view_is ∙ sym c.number.ensures ∙ c.in-None.is)
    e.fresh e.numbers e.given e.as_numbered e.as_given a t
    ∙ ap (λ (p : Placed). links p a t) c.self.view_is
