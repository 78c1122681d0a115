use Rattle.std.proofs.Common.{rules, ◌+◌, ◌-◌, arith, refl}
use Rattle.std.proofs.lemmas.Grind.{common_steps}
use Rattle.predictive_parsing.specs.Reading.{turns}
use Rattle.predictive_parsing.specs.Fits.{any}
use Rattle.predictive_parsing.proofs.Loops.{turn_made, turn_refused, turns_made}
use Rattle.txn_parse.specs.code.Lists.{and_more}
use Rattle.txn_parse.proofs.Levels.{turns_begin}
use Rattle.txn_grammar.specs.code.Reader.{after_comma, expression}
use Rattle.txn_parse.proofs.grammar.Grammar.and_so_many.Goals as goal

pub loop-init : goal.loop-init
loop-init g c = turns_begin any (after_comma (expression (c.args.self.now.levels - 1))) c.args.found c.args.cursor.now c.args.count

pub returns-in_err-next : goal.returns-in_err-next
returns-in_err-next g c =
    let item = after_comma (expression (c.args.self.now.levels - 1)) in
    let k =
    turn_refused any item c.loop.found (c.args.count - c.loop.counter) c.loop.cursor (and_more c.args.found (turns any item c.args.count) c.args.cursor.now) c.loop.invariant
    (c.args.count - (c.loop.counter + 1)) c.after_comma.new.cursor (omega arith) refl
    in
    first_of (search (rules, k), grind (arith, common_steps, k))

pub loop-preserved : goal.loop-preserved
loop-preserved g c =
    let item = after_comma (expression (c.args.self.now.levels - 1)) in
    let k =
    turn_made any item c.loop.found (c.args.count - c.loop.counter) c.loop.cursor (and_more c.args.found (turns any item c.args.count) c.args.cursor.now) c.loop.invariant
    (c.args.count - (c.loop.counter + 1)) c.after_comma.new.cursor c.in_ok-next.next (omega arith) refl
    in
    first_of (search (rules, k), grind (arith, common_steps, k))

pub returns : goal.returns
returns g c =
    let item = after_comma (expression (c.args.self.now.levels - 1)) in
    turns_made any item c.loop.found (c.args.count - c.loop.counter) c.loop.cursor (and_more c.args.found (turns any item c.args.count) c.args.cursor.now)
    c.loop.invariant (omega arith)
