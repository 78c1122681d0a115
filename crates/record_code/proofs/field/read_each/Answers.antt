use Rattle.std.proofs.lemmas.Result.{err_from_is_err_and}
use Rattle.record_code.proofs.Loop.{goes_on, ends, is_done}
use Rattle.record_code.proofs.field.read_each.Goals as goal

pub returns-in_err-field : goal.returns-in_err-field
returns-in_err-field g c =
    let p = err_from_is_err_and c.from_residual.result c.from_residual.ensures.1 in
    rw (p.1, p.2)
    (ends (g.F.Field.read_at c.args.version) c.in_err-field.field-0.0 c.loop.fields.items c.args.count c.loop.counter
    c.loop.rest.now _ c.loop-test.true c.in_err-field.ensures c.loop.invariant)

pub loop-preserved : goal.loop-preserved
loop-preserved g c =
    rw c.in_ok-push.ensures.items
    (goes_on (g.F.Field.read_at c.args.version) c.loop.fields.items c.args.count c.loop.counter c.loop.rest.now
    c.in_ok-field.field c.in_ok-field.behind.now _ c.loop-test.true c.in_ok-field.ensures c.loop.invariant)

pub returns : goal.returns
returns g c =
    is_done (g.F.Field.read_at c.args.version) c.loop.fields.items c.args.count c.loop.counter c.loop.rest.now _
    c.loop-test.false c.loop.invariant
