use Rattle.std.proofs.Common.{rules, arith}
use Rattle.std.proofs.lemmas.Grind.{common_steps}
use Rattle.txn_parse.proofs.Calls.{left_at}
use Rattle.txn_grammar.specs.code.Reader.{further}
use Rattle.txn_parse.proofs.chain.further.Goals as goal

pub returns-in_err-operator : goal.returns-in_err-operator
unfolding further
returns-in_err-operator g c = λ reader reads.
    first_of (search rules, grind (arith, common_steps))

pub returns-in_err-value : goal.returns-in_err-value
unfolding further
returns-in_err-value g c = λ reader reads.
    let h = reads c.operator.new.cursor c.operand.new.arg2 c.operand.result (left_at g.R.Fn c.operand.ensures) in
    first_of (search (rules, h), grind (arith, common_steps, h))

pub returns : goal.returns
unfolding further
returns g c = λ reader reads.
    let h = reads c.operator.new.cursor c.operand.new.arg2 c.operand.result (left_at g.R.Fn c.operand.ensures) in
    first_of (search (rules, h), grind (arith, common_steps, h))
