use Rattle.std.proofs.Common.{ap, sym, subst, ◌∙◌}
use Rattle.rdt_types.specs.DeltaMaps.{Deltas}
use Rattle.rerun_driver.specs.Watches.{all_told}
use Rattle.rerun_driver.specs.code.Rolls.{Rolled, IsPlaced}
use Rattle.rerun_driver.proofs.Placed.{along-all, placed-told}
use Rattle.rerun_driver.proofs.driver.Driver.advance.Goals as goal

pub invariant_of-self : goal.invariant_of-self
invariant_of-self c =
    let inside = c.self.inside in
    let changes = c.changes.result.now in
    let covers = c.self.invariant.covers c.if-self.true in
    subst (λ (roll : Rolled). IsPlaced inside.is_placed inside.places roll)
    (sym (c.tell_placed.ensures ∙ along-all changes inside.places inside.roll c.self.invariant.ordered covers))
    (placed-told changes inside.is_placed inside.places inside.roll c.self.invariant)

pub invariant_of-self-else-self : goal.invariant_of-self-else-self
invariant_of-self-else-self c =
    let inside = c.self.inside in
    subst (λ (roll : Rolled). IsPlaced inside.is_placed inside.places roll) (sym c.tell_all.ensures)
    (placed-told c.changes-else-self.result.now inside.is_placed inside.places inside.roll c.self.invariant)

pub returns-then-self : goal.returns-then-self
returns-then-self c =
    let inside = c.self.inside in
    let changes = c.changes.result.now in
    ap (λ (roll : Rolled). roll.1)
    (c.tell_placed.ensures ∙ along-all changes inside.places inside.roll c.self.invariant.ordered (c.self.invariant.covers c.if-self.true))
    ∙ ap (λ (deltas : Deltas). all_told deltas inside.roll.1) c.changes.ensures
    ∙ ap (all_told c.args.feed.now.changes) c.self.view_is

pub returns-else-self : goal.returns-else-self
returns-else-self c =
    let inside = c.self.inside in
    ap (λ (roll : Rolled). roll.1) c.tell_all.ensures
    ∙ ap (λ (deltas : Deltas). all_told deltas inside.roll.1) c.changes-else-self.ensures
    ∙ ap (all_told c.args.feed.now.changes) c.self.view_is
