use Rattle.std.proofs.Common.{option_and_then, slice_get, ap, ◌∙◌}
use Rattle.rerun_driver.specs.code.Rolls.{number_of}
use Rattle.rerun_driver.proofs.Rolls.{number-at}
use Rattle.rerun_driver.proofs.roll.Roll.number_of.Goals as goal

pub returns-in-Some : goal.returns-in-Some
returns-in-Some c =
    let order = c.self.inside.order.0 in
    c.get.ensures
    ∙ ap (option_and_then (slice_get order)) c.in-Some.ensures.index
    ∙ number-at c.as_slice.result.now order c.self.inside.watches.entries c.self.invariant.as_many
    ∙ (λ i. number_of (c.self.view_is i) (c.as_slice.ensures i))

pub returns-in-None : goal.returns-in-None
returns-in-None c =
    let order = c.self.inside.order.0 in
    ap (option_and_then (slice_get order)) c.in-None.ensures.index
    ∙ number-at c.as_slice.result.now order c.self.inside.watches.entries c.self.invariant.as_many
    ∙ (λ i. number_of (c.self.view_is i) (c.as_slice.ensures i))
