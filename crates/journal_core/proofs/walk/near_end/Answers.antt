use Rattle.std.proofs.Common.{◌-◌, length, arith}
use Rattle.journal_core.proofs.Rising.{front-up_to}
use Rattle.journal_core.proofs.walk.near_end.Goals as goal

-- the change at the place is up to the number, and so is what stands before it
pub returns-then-changes-step : goal.returns-then-changes-step
returns-then-changes-step c =
    let all = c.args.changes.now in
    let some = c.loop-step.invariant in
    let within = c.loop-step-test.true in
    front-up_to c.args.number 0 all (length all - c.loop-step.step) c.index-changes-changes.result c.requires
    (omega (arith, some, within)) c.if-changes-step.true
