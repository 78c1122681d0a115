use Rattle.std.proofs.Common.{◌≡◌, ◌-◌, length}
use Rattle.predictive_parsing.specs.Reading.{Reader, turns, many}
use Rattle.predictive_parsing.proofs.Loops.{with_front}
use Rattle.txn_trees.specs.declared.expression.Expr.{Expr}
use Rattle.txn_grammar.specs.declared.token.Spot.{Spot}
use Rattle.txn_grammar.specs.code.Reader.{begins_operator, further}
use Rattle.txn_parse.specs.code.Closures.{ReadsAs}
use Rattle.txn_parse.proofs.chain.others.Given as goal

-- what is found, and what the turns that are left will find, is all, whatever reader the operand's is
abbrev pub invariant-loop : goal.invariant-loop
invariant-loop g l =
    (reader : Reader Spot Expr) → ReadsAs g.R.Fn l.operand reader
    → with_front l.found (turns (begins_operator l.rank) (further l.rank reader) (length l.fn.cursor - l.counter) l.cursor)
    ≡ many (begins_operator l.rank) (further l.rank reader) l.fn.cursor
