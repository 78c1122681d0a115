use Rattle.std.proofs.Common.{◌≡◌, ◌+◌, ◌-◌, ◌≤◌, ◌++◌, length, drop}
use Rattle.txn_grammar.specs.Lexer.{lex, lex_from}
use Rattle.txn_grammar.proofs.lexer.tokens.Given as goal

abbrev pub invariant-loop-at : goal.invariant-loop-at
invariant-loop-at l = (l.spots.items ++ lex_from (l.at + 1) 0 (drop l.at l.source) ≡ lex l.source) × (l.at ≤ length l.source)

abbrev pub decreases-loop-at : goal.decreases-loop-at
decreases-loop-at l = length l.source - l.at
