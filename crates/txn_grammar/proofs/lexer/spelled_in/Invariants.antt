use Rattle.std.proofs.Common.{◌≡◌, length, map}
use Rattle.txn_grammar.specs.Spellings.{spelled_in}
use Rattle.txn_grammar.proofs.lexer.spelled_in.Given as goal

abbrev pub invariant-loop-rows : goal.invariant-loop-rows
invariant-loop-rows l = spelled_in (map (λ row. (row.0.now, row.1)) l.rows) l.text ≡ spelled_in (map (λ row. (row.0.now, row.1)) l.initial.rows) l.text

abbrev pub decreases-loop-rows : goal.decreases-loop-rows
decreases-loop-rows l = length l.rows
