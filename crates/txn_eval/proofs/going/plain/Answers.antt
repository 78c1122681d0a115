use Rattle.std.proofs.Common.{◌∙◌, ap}
use Rattle.txn_lang.specs.Rules.{stmt_run}
use Rattle.txn_eval.specs.Running.{values_of}
use Rattle.txn_eval.specs.code.Buffering.{kept}
use Rattle.txn_eval.specs.code.Pauses.{taken_back}
use Rattle.txn_eval.proofs.Pauses.{needed, plain_needs, plain_gives}
use Rattle.txn_eval.proofs.going.plain.Goals as goal

pub returns-in-Ok : goal.returns-in-Ok
returns-in-Ok c =
    plain_gives (values_of c.args.known.now.snaps.now) c.args.stmt.now c.requires c.args.names.now c.simple.new.names c.args.run.now c.simple.new.run
    c.in-Ok.ensures.rule

pub returns-in-Need : goal.returns-in-Need
returns-in-Need c =
    let s = values_of c.args.known.now.snaps.now in
    let old = c.args.run.now in
    let looked = c.simple.new.run in
    plain_needs s c.args.stmt.now c.requires c.args.names.now c.simple.new.names c.in-Need.address old looked c.take_back.new.run
    (needed c.in-Err.stop c.in-Need.address (stmt_run (kept s) c.args.stmt.now c.args.names.now old) looked c.in-Need.is c.in-Err.ensures.rule)
    (c.take_back.ensures ∙ ap (λ n. taken_back old.ticks n looked) c.len-count.ensures) c.in-Err.ensures.err
