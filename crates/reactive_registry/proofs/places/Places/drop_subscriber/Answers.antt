use Rattle.std.proofs.Common.{ap, ◌∙◌}
use Rattle.edge_slab.proofs.Membership.{dropped-is}
use Rattle.reactive_registry.specs.Placed.{Placed}
use Rattle.reactive_registry.specs.Places.{without_links}
use Rattle.reactive_registry.proofs.Links.{dropped, numbers_dropped}
use Rattle.reactive_registry.proofs.places.Places.drop_subscriber.Goals as goal

pub invariant_of-self : goal.invariant_of-self
invariant_of-self c =
    let inside = c.self.inside in
    numbers_dropped inside.numbers.entries inside.given inside.edges c.self.invariant c.drop_subscriber.new.self c.args.subscriber
    (dropped-is inside.edges c.drop_subscriber.new.self c.args.subscriber c.drop_subscriber.ensures)

pub loop-address-init : goal.loop-address-init
loop-address-init c a t =
    let inside = c.self.inside in
    dropped inside.numbers.entries inside.given inside.edges c.self.invariant c.drop_subscriber.new.self c.args.subscriber
    (dropped-is inside.edges c.drop_subscriber.new.self c.args.subscriber c.drop_subscriber.ensures) a t
    ∙ ap (λ (p : Placed). without_links p c.args.subscriber a t) c.self.view_is
