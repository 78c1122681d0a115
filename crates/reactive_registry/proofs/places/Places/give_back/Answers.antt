use Rattle.std.proofs.Common.{sym, ap, ◌∙◌}
use Rattle.reactive_registry.specs.Placed.{Placed, number_in}
use Rattle.reactive_registry.specs.Places.{links}
use Rattle.reactive_registry.proofs.Links.{nobody_left, numbers_less, stands_less}
use Rattle.reactive_registry.proofs.places.Places.give_back.Goals as goal

pub invariant_of-self : goal.invariant_of-self
invariant_of-self c =
    let inside = c.self.inside in
    let k = c.args.address.now in
    let n = c.in-Some.number in
    numbers_less inside.numbers.entries inside.given inside.edges c.self.invariant c.remove.new.self.entries c.take_back.new.given k n
    (ap (λ (p : Placed). number_in p.numbers k) c.self.view_is ∙ sym c.number.ensures ∙ c.in-Some.is)
    (nobody_left inside.edges n (sym c.is_free.ensures ∙ c.if-is_free.true)) c.remove.ensures.updates.0 c.take_back.ensures

pub returns-then-is_free : goal.returns-then-is_free
returns-then-is_free c a t =
    let inside = c.self.inside in
    let k = c.args.address.now in
    let n = c.in-Some.number in
    stands_less inside.numbers.entries inside.given inside.edges c.self.invariant c.remove.new.self.entries c.take_back.new.given k n
    (ap (λ (p : Placed). number_in p.numbers k) c.self.view_is ∙ sym c.number.ensures ∙ c.in-Some.is)
    (nobody_left inside.edges n (sym c.is_free.ensures ∙ c.if-is_free.true)) c.remove.ensures.updates.0 c.take_back.ensures a t
    ∙ ap (λ (p : Placed). links p a t) c.self.view_is
