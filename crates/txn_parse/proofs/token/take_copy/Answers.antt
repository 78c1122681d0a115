use Rattle.std.proofs.Common.{rules, arith}
use Rattle.std.proofs.lemmas.Grind.{common_steps}
use Rattle.txn_parse.proofs.Heads.{copy_taken, copy_refused}
use Rattle.txn_parse.proofs.token.take_copy.Goals as goal

pub returns-in_default-clause-reads : goal.returns-in_default-clause-reads
returns-in_default-clause-reads c = λ f e n. copy_refused f (λ found. (found.0, found.1.now)) c.args.cursor.now c.args.found e (search rules)

pub returns-clause-reads : goal.returns-clause-reads
returns-clause-reads c = λ f e.
    let k = copy_taken f (λ found. (found.0, found.1.now)) c.args.cursor.now c.args.found (c.in-Some.column, c.in-Some.text) e (search rules) in
    first_of (search (rules, k), grind (arith, common_steps, k))
