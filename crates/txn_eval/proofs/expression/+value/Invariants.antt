use Rattle.std.proofs.Common.{◌≡◌, map, [], drop}
use Rattle.txn_lang.specs.Rules as rules
use Rattle.txn_eval.specs.code.Forms.{on}
use Rattle.txn_eval.proofs.expression.+value.Given as goal

abbrev pub invariant-chain-loop-operand : goal.invariant-chain-loop-operand
invariant-chain-loop-operand l =
    let run = rules.operand_run (on l.here.snaps.now) in
    let names = l.here.names.now in
    rules.chain l.fn.first (map run l.fn.operands) names l.fn.run ≡ rules.chain l.item (map run (drop l.operand-index l.operands)) names l.run

abbrev pub invariant-values_of-loop-expr : goal.invariant-values_of-loop-expr
invariant-values_of-loop-expr l =
    let run = rules.expr_run (on l.here.snaps.now) in
    let names = l.here.names.now in
    rules.all_values [] (map run l.fn.exprs) names l.fn.run ≡ rules.all_values l.items (map run (drop l.expr-index l.exprs)) names l.run
