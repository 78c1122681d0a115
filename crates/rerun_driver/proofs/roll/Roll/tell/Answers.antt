use Rattle.std.proofs.Common.{◌≡◌, ap, sym, subst, ◌∙◌}
use Rattle.rerun_driver.specs.Watches.{Watches}
use Rattle.rerun_driver.specs.code.Rolls.{Rolled, told_at, told_place}
use Rattle.rerun_driver.specs.code.Shown.{shown}
use Rattle.rerun_driver.proofs.Rolls.{told-found, told-missed}
use Rattle.rerun_driver.proofs.roll.Roll.tell.Goals as goal

pub returns-in-Some : goal.returns-in-Some
returns-in-Some c =
    let changes = c.args.changes.now in
    let order = c.self.inside.order.0 in
    let ws = shown c.self.inside.watches.entries in
    c.tell_place.ensures
    ∙ subst (λ (roll : Rolled). (roll.0, told_place changes c.in-Some.place roll.1) ≡ told_at changes roll c.args.number) c.self.view_is
    (ap (λ (all : Watches). (order, all)) (told-found changes order ws c.args.number c.in-Some.place c.self.invariant.rising (sym c.in-Some.ensures)))

pub returns-in_default : goal.returns-in_default
returns-in_default c =
    let changes = c.args.changes.now in
    let order = c.self.inside.order.0 in
    let ws = shown c.self.inside.watches.entries in
    subst (λ (roll : Rolled). roll ≡ told_at changes roll c.args.number) c.self.view_is
    (ap (λ (all : Watches). (order, all)) (told-missed changes order ws c.args.number (sym c.in_default.ensures)))
