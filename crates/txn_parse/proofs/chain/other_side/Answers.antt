use Rattle.std.proofs.Common.{rules, arith}
use Rattle.std.proofs.lemmas.Grind.{common_steps}
use Rattle.txn_parse.proofs.Calls.{left_at}
use Rattle.txn_grammar.specs.code.Reader.{other_side}
use Rattle.txn_parse.proofs.chain.other_side.Goals as goal

pub returns-in_err-relation : goal.returns-in_err-relation
unfolding other_side
returns-in_err-relation g c = λ reader reads.
    first_of (search rules, grind (arith, common_steps))

pub returns-in_err-right : goal.returns-in_err-right
unfolding other_side
returns-in_err-right g c = λ reader reads.
    let h = reads c.relation.new.cursor c.side.new.arg2 c.side.result (left_at g.R.Fn c.side.ensures) in
    first_of (search (rules, h), grind (arith, common_steps, h))

pub returns : goal.returns
unfolding other_side
returns g c = λ reader reads.
    let h = reads c.relation.new.cursor c.side.new.arg2 c.side.result (left_at g.R.Fn c.side.ensures) in
    first_of (search (rules, h), grind (arith, common_steps, h))
