use Rattle.std.proofs.Common.{◌≡◌, map, drop}
use Rattle.txn_lang.specs.Typing as spec
use Rattle.txn_lang.proofs.judging.+judged.Given as goal

abbrev pub invariant-all_of-loop-expr : goal.invariant-all_of-loop-expr
invariant-all_of-loop-expr l =
    spec.all_of l.fn.wanted l.fn.complaint (map spec.typed l.fn.exprs) l.names
    ≡ spec.all_of l.wanted l.complaint (map spec.typed (drop l.expr-index l.exprs)) l.names

abbrev pub invariant-operands_of-loop-operand : goal.invariant-operands_of-loop-operand
invariant-operands_of-loop-operand l =
    spec.operands_of l.fn.first l.fn.complaint (map spec.judged_operand l.fn.operands) l.names
    ≡ spec.operands_of l.first l.complaint (map spec.judged_operand (drop l.operand-index l.operands)) l.names
