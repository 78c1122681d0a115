use Rattle.std.proofs.Common.{◌≡◌, length, map}
use Rattle.txn_grammar.specs.Tokens.{operation_in}
use Rattle.txn_grammar.proofs.meaning.operation_in.Given as goal

abbrev pub invariant-loop-rows : goal.invariant-loop-rows
invariant-loop-rows g l =
    operation_in (map (λ row. (row.0, row.1.now, row.2, row.3)) l.rows) l.kind l.spelling
    ≡ operation_in (map (λ row. (row.0, row.1.now, row.2, row.3)) l.initial.rows) l.kind l.spelling

abbrev pub decreases-loop-rows : goal.decreases-loop-rows
decreases-loop-rows g l = length l.rows
