use Rattle.std.proofs.Common.{rules, ◌+◌, ◌-◌, length, arith}
use Rattle.std.proofs.lemmas.Grind.{common_steps}
use Rattle.predictive_parsing.specs.Reading.{many}
use Rattle.predictive_parsing.proofs.Loops.{many_begins, turn_made, turn_refused, turns_over, turns_made}
use Rattle.txn_grammar.specs.declared.symbol.Symbol.TheVariants as symbol
use Rattle.txn_grammar.specs.code.Reader.{sees, after_comma, expression}
use Rattle.txn_parse.proofs.grammar.Grammar.others.Goals as goal

pub loop-init : goal.loop-init
loop-init g c = many_begins (sees symbol.Comma) (after_comma (expression (c.args.self.now.levels - 1))) c.new-found.result c.args.cursor.now (search rules)

pub returns-then-not-sees : goal.returns-then-not-sees
returns-then-not-sees g c =
    let item = after_comma (expression (c.args.self.now.levels - 1)) in
    turns_over (sees symbol.Comma) item c.loop.found (length c.args.cursor.now - c.loop.counter) c.loop.cursor
    (many (sees symbol.Comma) item c.args.cursor.now) c.loop.invariant (search rules)

pub returns-in_err-next : goal.returns-in_err-next
returns-in_err-next g c =
    let item = after_comma (expression (c.args.self.now.levels - 1)) in
    let k =
    turn_refused (sees symbol.Comma) item c.loop.found (length c.args.cursor.now - c.loop.counter) c.loop.cursor
    (many (sees symbol.Comma) item c.args.cursor.now) c.loop.invariant
    (length c.args.cursor.now - (c.loop.counter + 1)) c.after_comma.new.cursor (omega arith) (search rules)
    in
    first_of (search (rules, k), grind (arith, common_steps, k))

pub loop-preserved : goal.loop-preserved
loop-preserved g c =
    let item = after_comma (expression (c.args.self.now.levels - 1)) in
    let k =
    turn_made (sees symbol.Comma) item c.loop.found (length c.args.cursor.now - c.loop.counter) c.loop.cursor
    (many (sees symbol.Comma) item c.args.cursor.now) c.loop.invariant
    (length c.args.cursor.now - (c.loop.counter + 1)) c.after_comma.new.cursor c.in_ok-next.next (omega arith) (search rules)
    in
    first_of (search (rules, k), grind (arith, common_steps, k))

pub returns : goal.returns
returns g c =
    let item = after_comma (expression (c.args.self.now.levels - 1)) in
    turns_made (sees symbol.Comma) item c.loop.found (length c.args.cursor.now - c.loop.counter) c.loop.cursor
    (many (sees symbol.Comma) item c.args.cursor.now) c.loop.invariant (omega arith)
