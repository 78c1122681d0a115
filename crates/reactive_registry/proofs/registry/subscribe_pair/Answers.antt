use Rattle.std.proofs.Common.{true, false, cond, ◌&&◌, sym, ap, ◌∙◌}
use Rattle.std.specs.Ordering.{nat_cmp}
use Rattle.std.specs.BTreeMap.{is_at}
use Rattle.rdt_types.specs.Addresses.{address_cmp}
use Rattle.reactive_registry.specs.Registered.{is_address}
use Rattle.reactive_registry.specs.Places.{links}
use Rattle.reactive_registry.proofs.Links.{on_err}
use Rattle.reactive_registry.proofs.Pairs.{address_there, pair_there, come_and_gone}
use Rattle.reactive_registry.proofs.registry.subscribe_pair.Goals as goal

pub returns-then-has-clause-has : goal.returns-then-has-clause-has
returns-then-has-clause-has c = address_there (is_address c.args.kept.now) c.args.address.now true (sym c.has.ensures ∙ c.if-has.true)

pub returns-then-has-clause-places : goal.returns-then-has-clause-places
returns-then-has-clause-places c =
    pair_there (links c.args.places.now) c.args.address.now c.args.subscriber true (c.requires ∙ sym c.has.ensures ∙ c.if-has.true)

-- what was linked is unlinked again
pub returns-then-is_err-clause-as_placed : goal.returns-then-is_err-clause-as_placed
returns-then-is_err-clause-as_placed c =
    let k = c.args.address.now in
    let s = c.args.subscriber in
    on_err c.subscribe-added.result _
    (λ a t. c.unlink.ensures a t
    ∙ ap (cond (is_at (address_cmp k) a && is_at (nat_cmp s) t) false) (c.in_ok-link.ensures.ok a t)
    ∙ come_and_gone (is_at (address_cmp k) a && is_at (nat_cmp s) t) (links c.args.places.now a t)
    ∙ sym (pair_there (links c.args.places.now) k s false (c.requires ∙ sym c.has.ensures ∙ c.if-has.false) a t))
