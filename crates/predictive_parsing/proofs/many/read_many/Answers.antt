use Rattle.std.proofs.Common.{rules, ◌+◌, ◌-◌, length, arith}
use Rattle.std.proofs.lemmas.Grind.{common_steps}
use Rattle.predictive_parsing.specs.Reading as read
use Rattle.predictive_parsing.proofs.Loops.{many_begins, turn_made, turn_refused, turns_over, turns_made}
use Rattle.predictive_parsing.proofs.many.read_many.Goals as goal

pub loop-init : goal.loop-init
loop-init g c = many_begins (g.R.Reading.starts c.args.reading.now) (g.R.Reading.reader c.args.reading.now) c.new-found.result c.args.cursor.now (search rules)

pub returns-then-not-begins : goal.returns-then-not-begins
returns-then-not-begins g c =
    let starts = g.R.Reading.starts c.args.reading.now in
    let reader = g.R.Reading.reader c.args.reading.now in
    let ts = c.args.cursor.now in
    turns_over starts reader c.loop.found (length ts - c.loop.counter) c.loop.cursor (read.many starts reader ts) c.loop.invariant (search rules)

pub returns-in_err-item : goal.returns-in_err-item
returns-in_err-item g c =
    let starts = g.R.Reading.starts c.args.reading.now in
    let reader = g.R.Reading.reader c.args.reading.now in
    let ts = c.args.cursor.now in
    let k =
    turn_refused starts reader c.loop.found (length ts - c.loop.counter) c.loop.cursor (read.many starts reader ts) c.loop.invariant
    (length ts - (c.loop.counter + 1)) c.read.new.cursor (omega arith) (search rules)
    in
    first_of (search (rules, k), grind (arith, common_steps, k))

pub loop-preserved : goal.loop-preserved
loop-preserved g c =
    let starts = g.R.Reading.starts c.args.reading.now in
    let reader = g.R.Reading.reader c.args.reading.now in
    let ts = c.args.cursor.now in
    let k =
    turn_made starts reader c.loop.found (length ts - c.loop.counter) c.loop.cursor (read.many starts reader ts) c.loop.invariant
    (length ts - (c.loop.counter + 1)) c.read.new.cursor c.in_ok-item.item (omega arith) (search rules) (search rules)
    in
    first_of (search (rules, k), grind (arith, common_steps, k))

pub returns : goal.returns
returns g c =
    let starts = g.R.Reading.starts c.args.reading.now in
    let reader = g.R.Reading.reader c.args.reading.now in
    let ts = c.args.cursor.now in
    turns_made starts reader c.loop.found (length ts - c.loop.counter) c.loop.cursor (read.many starts reader ts) c.loop.invariant (omega arith)
