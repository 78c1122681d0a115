use Rattle.std.proofs.Common.{◌≤◌, length, ap, sym, subst, ◌∙◌, arith, add-one}
use Rattle.rerun_driver.specs.Watches.{Watches}
use Rattle.rerun_driver.specs.code.Rolls.{Rolled, told_place}
use Rattle.rerun_driver.specs.code.Shown.{shown}
use Rattle.rerun_driver.proofs.Keeping.{length-shown}
use Rattle.rerun_driver.proofs.Rolls.{first_told, told-next, all-first_told}
use Rattle.rerun_driver.proofs.roll.Roll.tell_all.Goals as goal

pub loop-place-preserved : goal.loop-place-preserved
loop-place-preserved c =
    let n = c.loop-place.place in
    let changes = c.args.changes.now in
    let order = c.args.self.now.0 in
    let ws = c.args.self.now.1 in
    c.tell_place.ensures
    ∙ ap (λ (roll : Rolled). (roll.0, told_place changes n roll.1)) c.loop-place.invariant
    ∙ ap (λ (all : Watches). (order, all)) (told-next changes n ws ∙ ap (λ m. first_told changes m ws) (sym (add-one n)))

pub returns : goal.returns
returns c =
    let n = c.loop-place.place in
    let changes = c.args.changes.now in
    let kept = c.self.inside.watches.entries in
    let long : length (shown kept) ≤ n =
    (let h = length-shown kept in omega (arith, h, c.loop-place-test.false, c.loop-place.auto.place-end, c.len-place-end.ensures.len)) in
    c.loop-place.invariant
    ∙ ap (λ (all : Watches). (c.args.self.now.0, all))
    (all-first_told changes n c.args.self.now.1 (subst (λ (roll : Rolled). length roll.1 ≤ n) c.self.view_is long))
