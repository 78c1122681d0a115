use Rattle.std.proofs.Common.{◌∙◌, ap}
use Rattle.txn_lang.specs.Rules.{expr_run}
use Rattle.txn_eval.specs.Running.{values_of}
use Rattle.txn_eval.specs.code.Buffering.{kept}
use Rattle.txn_eval.specs.code.Pauses.{taken_back}
use Rattle.txn_eval.proofs.Pauses.{needed, behind_tick, head_needs, head_gives}
use Rattle.txn_eval.proofs.going.head.Goals as goal

pub returns-in-Ok : goal.returns-in-Ok
returns-in-Ok c =
    let s = values_of c.args.here.now.snaps.now in
    let does = expr_run (kept s) c.args.expr.now c.args.here.now.names.now in
    head_gives s c.args.expr.now c.args.here.now.names.now c.args.run.now c.value_of.new.run c.in-Ok.item
    (behind_tick does c.args.run.now c.charge.new.run _ c.in_ok-charge.ensures.rule c.in-Ok.ensures)

pub returns-in-Need : goal.returns-in-Need
returns-in-Need c =
    let s = values_of c.args.here.now.snaps.now in
    let does = expr_run (kept s) c.args.expr.now c.args.here.now.names.now in
    let old = c.args.run.now in
    let looked = c.value_of.new.run in
    head_needs s c.args.expr.now c.args.here.now.names.now c.in-Need.address old looked c.take_back.new.run
    (behind_tick does old c.charge.new.run _ c.in_ok-charge.ensures.rule
    (needed c.in-Err.stop c.in-Need.address (does c.charge.new.run) looked c.in-Need.is c.in-Err.ensures))
    (c.take_back.ensures ∙ ap (λ n. taken_back old.ticks n looked) c.len-count.ensures)
