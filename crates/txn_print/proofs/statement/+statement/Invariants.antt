use Rattle.std.proofs.Common.{◌≡◌, take, map}
use Rattle.std.specs.List.{flat_map}
use Rattle.txn_print.specs.Pieces.{written}
use Rattle.txn_print.specs.Canonical.{shown_stmt}
use Rattle.txn_print.proofs.statement.+statement.Given as goal

abbrev pub invariant-push_block-loop-stmt : goal.invariant-push_block-loop-stmt
invariant-push_block-loop-stmt l = l.line ≡ written l.initial.line (flat_map (λ pieces. pieces) (map shown_stmt (take l.stmt-index l.stmts)))
