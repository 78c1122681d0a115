use Rattle.std.proofs.Common.{arith, ap, ◌∙◌, Some, None}
use Rattle.std.proofs.lemmas.Grind.{common_steps}
use Rattle.txn_print.proofs.Equations.{at_let, at_emit, at_fail, at_if, at_for, at_write}
use Rattle.txn_trees.specs.declared.statement.StmtNode.TheVariants as made
use Rattle.txn_print.proofs.statement.+statement.Goals as goal

pub push_stmt-returns-in_ok-word-in-Let-2 : goal.push_stmt-returns-in_ok-word-in-Let-2
push_stmt-returns-in_ok-word-in-Let-2 t c = let e = at_let c.args.stmt.now c.in-Let.name c.in-Let.value c.in-Let.is in grind (arith, common_steps, e)

pub push_stmt-returns-in_ok-word-in-Emit : goal.push_stmt-returns-in_ok-word-in-Emit
push_stmt-returns-in_ok-word-in-Emit t c = let e = at_emit c.args.stmt.now c.in-Emit.value c.in-Emit.is in grind (arith, common_steps, e)

pub push_stmt-returns-in_ok-word-in-Fail : goal.push_stmt-returns-in_ok-word-in-Fail
push_stmt-returns-in_ok-word-in-Fail t c = let e = at_fail c.args.stmt.now c.in-Fail.reason c.in-Fail.is in grind (arith, common_steps, e)

pub push_stmt-returns-in_ok-push_expr-in-For : goal.push_stmt-returns-in_ok-push_expr-in-For
push_stmt-returns-in_ok-push_expr-in-For t c =
    let e = at_for c.args.stmt.now c.in-For.name c.in-For.texts c.in-For.each c.in-For.is in
    grind (arith, common_steps, e)

pub push_stmt-returns-in_ok-push_request-in-Write : goal.push_stmt-returns-in_ok-push_request-in-Write
push_stmt-returns-in_ok-push_request-in-Write t c =
    let e = at_write c.args.stmt.now c.in-Write.kind c.in-Write.key c.in-Write.word c.in-Write.arguments c.in-Write.is in
    grind (arith, common_steps, e)

pub push_stmt-returns-in-None : goal.push_stmt-returns-in-None
push_stmt-returns-in-None t c =
    let i = c.in-If.is ∙ ap (λ o. made.If c.in-If.condition c.in-If.holds o) c.in-None.is in
    let e = at_if c.args.stmt.now c.in-If.condition c.in-If.holds None i in
    grind (arith, common_steps, e)

pub push_stmt-returns-in_ok-word-in-Some : goal.push_stmt-returns-in_ok-word-in-Some
push_stmt-returns-in_ok-word-in-Some t c =
    let i = c.in-If.is ∙ ap (λ o. made.If c.in-If.condition c.in-If.holds o) c.in-Some.is in
    let e = at_if c.args.stmt.now c.in-If.condition c.in-If.holds (Some c.in-Some.stmts) i in
    grind (arith, common_steps, e)
