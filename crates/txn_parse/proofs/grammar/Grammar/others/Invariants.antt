use Rattle.std.proofs.Common.{◌≡◌, ◌-◌, length}
use Rattle.predictive_parsing.specs.Reading.{turns, many}
use Rattle.predictive_parsing.proofs.Loops.{with_front}
use Rattle.txn_grammar.specs.declared.symbol.Symbol.TheVariants as symbol
use Rattle.txn_grammar.specs.code.Reader.{sees, after_comma, expression}
use Rattle.txn_parse.proofs.grammar.Grammar.others.Given as goal

-- what is found, and what the turns that are left will find, is all
abbrev pub invariant-loop : goal.invariant-loop
invariant-loop g l =
    let item = after_comma (expression (l.self.levels - 1)) in
    with_front l.found (turns (sees symbol.Comma) item (length l.fn.cursor - l.counter) l.cursor) ≡ many (sees symbol.Comma) item l.fn.cursor
