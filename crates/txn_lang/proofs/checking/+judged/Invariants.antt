use Rattle.std.proofs.Common.{◌≡◌, map, drop}
use Rattle.txn_lang.specs.Typing as spec
use Rattle.txn_lang.proofs.checking.+judged.Given as goal

abbrev pub invariant-in_order-loop-stmt : goal.invariant-in_order-loop-stmt
invariant-in_order-loop-stmt l =
    spec.in_order (map spec.names_after l.fn.stmts) l.fn.names ≡ spec.in_order (map spec.names_after (drop l.stmt-index l.stmts)) l.names
