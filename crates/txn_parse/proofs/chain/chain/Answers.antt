use Rattle.std.proofs.Common.{rules, arith}
use Rattle.std.proofs.lemmas.Grind.{common_steps}
use Rattle.txn_parse.specs.code.Begun as begun
use Rattle.txn_parse.proofs.Begun.{chain_alone}
use Rattle.txn_parse.proofs.chain.chain.Goals as goal

pub returns-then-not-sees_operator : goal.returns-then-not-sees_operator
returns-then-not-sees_operator g c = λ reader reads. chain_alone c.args.rank reader c.args.first c.args.cursor.now (search rules)

pub returns-in_err-first : goal.returns-in_err-first
unfolding begun.chain
returns-in_err-first g c = λ reader reads.
    let k = c.others-others.ensures reader reads in
    first_of (search (rules, k), grind (arith, common_steps, k))

pub returns : goal.returns
unfolding begun.chain
returns g c = λ reader reads.
    let k = c.others-others.ensures reader reads in
    first_of (search (rules, k), grind (arith, common_steps, k))
