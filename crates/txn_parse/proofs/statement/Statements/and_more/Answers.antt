use Rattle.std.proofs.Common.{rules, ◌+◌, ◌-◌, length, arith}
use Rattle.std.proofs.lemmas.Grind.{common_steps}
use Rattle.predictive_parsing.specs.Reading.{many}
use Rattle.predictive_parsing.proofs.Loops.{turn_made, turn_refused, turns_over, turns_made}
use Rattle.txn_parse.specs.code.Lists.{and_more}
use Rattle.txn_parse.proofs.Levels.{many_begin}
use Rattle.txn_grammar.specs.code.Reader.{begins_statement, statement}
use Rattle.txn_parse.proofs.statement.Statements.and_more.Goals as goal

pub loop-init : goal.loop-init
loop-init g c =
    many_begin (begins_statement (c.args.self.now.levels - 1)) (statement (c.args.self.now.levels - 1)) c.args.found c.args.cursor.now

pub returns-then-not-begins_statement : goal.returns-then-not-begins_statement
returns-then-not-begins_statement g c =
    let starts = begins_statement (c.args.self.now.levels - 1) in
    let item = statement (c.args.self.now.levels - 1) in
    turns_over starts item c.loop.found (length c.args.cursor.now - c.loop.counter) c.loop.cursor
    (and_more c.args.found (many starts item) c.args.cursor.now) c.loop.invariant (search rules)

pub returns-in_err-next : goal.returns-in_err-next
returns-in_err-next g c =
    let starts = begins_statement (c.args.self.now.levels - 1) in
    let item = statement (c.args.self.now.levels - 1) in
    let k =
    turn_refused starts item c.loop.found (length c.args.cursor.now - c.loop.counter) c.loop.cursor (and_more c.args.found (many starts item) c.args.cursor.now) c.loop.invariant
    (length c.args.cursor.now - (c.loop.counter + 1)) c.inside.new.cursor (omega arith) (search rules)
    in
    first_of (search (rules, k), grind (arith, common_steps, k))

pub loop-preserved : goal.loop-preserved
loop-preserved g c =
    let starts = begins_statement (c.args.self.now.levels - 1) in
    let item = statement (c.args.self.now.levels - 1) in
    let k =
    turn_made starts item c.loop.found (length c.args.cursor.now - c.loop.counter) c.loop.cursor (and_more c.args.found (many starts item) c.args.cursor.now) c.loop.invariant
    (length c.args.cursor.now - (c.loop.counter + 1)) c.inside.new.cursor c.in_ok-next.next (omega arith) (search rules)
    in
    first_of (search (rules, k), grind (arith, common_steps, k))

pub returns : goal.returns
returns g c =
    let starts = begins_statement (c.args.self.now.levels - 1) in
    let item = statement (c.args.self.now.levels - 1) in
    turns_made starts item c.loop.found (length c.args.cursor.now - c.loop.counter) c.loop.cursor
    (and_more c.args.found (many starts item) c.args.cursor.now) c.loop.invariant (omega arith)
