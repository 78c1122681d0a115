use Rattle.std.proofs.Common.{rules, arith}
use Rattle.std.proofs.lemmas.Grind.{common_steps}
use Rattle.txn_parse.proofs.Begun.{comparison_alone, comparison_goes}
use Rattle.txn_parse.proofs.chain.comparison.Goals as goal

pub returns-then-not-sees_relation : goal.returns-then-not-sees_relation
returns-then-not-sees_relation g c = λ reader reads. comparison_alone reader c.args.left c.args.cursor.now (search rules)

pub returns-in_err-left : goal.returns-in_err-left
returns-in_err-left g c = λ reader reads.
    let h = c.other_side-other.ensures reader reads in
    let e = comparison_goes reader c.args.left c.args.cursor.now (search rules) in
    first_of (search (rules, h, e), grind (arith, common_steps, h, e))

pub returns : goal.returns
returns g c = λ reader reads.
    let h = c.other_side-other.ensures reader reads in
    let e = comparison_goes reader c.args.left c.args.cursor.now (search rules) in
    first_of (search (rules, h, e), grind (arith, common_steps, h, e))
