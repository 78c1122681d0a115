use Rattle.std.proofs.Common.{◌≡◌, take}
use Rattle.std.specs.List.{flat_map}
use Rattle.txn_print.specs.Pieces.{written}
use Rattle.txn_print.specs.Canonical.{shown_stmt}
use Rattle.txn_print.proofs.statement.push_body.Given as goal

abbrev pub invariant-loop-stmt : goal.invariant-loop-stmt
invariant-loop-stmt l = l.line ≡ written l.fn.line (flat_map shown_stmt (take l.stmt-index l.stmts))
