use Rattle.std.proofs.Common.{rules, ◌+◌, ◌-◌, length, arith}
use Rattle.std.proofs.lemmas.Grind.{common_steps}
use Rattle.predictive_parsing.specs.Reading.{many}
use Rattle.predictive_parsing.proofs.Loops.{many_begins, turn_made, turn_refused, turns_over, turns_made}
use Rattle.txn_grammar.specs.code.Reader.{begins_operator, further}
use Rattle.txn_parse.proofs.chain.others.Goals as goal

pub loop-init : goal.loop-init
loop-init g c = λ reader reads. many_begins (begins_operator c.args.rank) (further c.args.rank reader) c.new-found.result c.args.cursor.now (search rules)

pub returns-then-not-sees_operator : goal.returns-then-not-sees_operator
returns-then-not-sees_operator g c = λ reader reads.
    let starts = begins_operator c.args.rank in
    let item = further c.args.rank reader in
    let ts = c.args.cursor.now in
    turns_over starts item c.loop.found (length ts - c.loop.counter) c.loop.cursor (many starts item ts) (c.loop.invariant reader reads) (search rules)

pub returns-in_err-next : goal.returns-in_err-next
returns-in_err-next g c = λ reader reads.
    let starts = begins_operator c.args.rank in
    let item = further c.args.rank reader in
    let ts = c.args.cursor.now in
    let h = c.further.ensures reader reads in
    let k =
    turn_refused starts item c.loop.found (length ts - c.loop.counter) c.loop.cursor (many starts item ts) (c.loop.invariant reader reads)
    (length ts - (c.loop.counter + 1)) c.further.new.cursor (omega arith) (search rules)
    in
    first_of (search (rules, h, k), grind (arith, common_steps, h, k))

pub loop-preserved : goal.loop-preserved
loop-preserved g c = λ reader reads.
    let starts = begins_operator c.args.rank in
    let item = further c.args.rank reader in
    let ts = c.args.cursor.now in
    let h = c.further.ensures reader reads in
    let k =
    turn_made starts item c.loop.found (length ts - c.loop.counter) c.loop.cursor (many starts item ts) (c.loop.invariant reader reads)
    (length ts - (c.loop.counter + 1)) c.further.new.cursor c.in_ok-next.next (omega arith) (search rules)
    in
    first_of (search (rules, h, k), grind (arith, common_steps, h, k))

pub returns : goal.returns
returns g c = λ reader reads.
    let starts = begins_operator c.args.rank in
    let item = further c.args.rank reader in
    let ts = c.args.cursor.now in
    turns_made starts item c.loop.found (length ts - c.loop.counter) c.loop.cursor (many starts item ts) (c.loop.invariant reader reads) (omega arith)
