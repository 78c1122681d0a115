use Rattle.std.proofs.Common.{◌≡◌, ◌-◌}
use Rattle.predictive_parsing.specs.Reading.{turns}
use Rattle.predictive_parsing.specs.Fits.{any}
use Rattle.predictive_parsing.proofs.Loops.{with_front}
use Rattle.txn_parse.specs.code.Lists.{and_more}
use Rattle.txn_grammar.specs.code.Reader.{after_comma, expression}
use Rattle.txn_parse.proofs.grammar.Grammar.and_so_many.Given as goal

-- what is found, and what the turns that are left will find, is all
abbrev pub invariant-loop : goal.invariant-loop
invariant-loop g l =
    let item = after_comma (expression (l.self.levels - 1)) in
    with_front l.found (turns any item (l.fn.count - l.counter) l.cursor) ≡ and_more l.fn.found (turns any item l.fn.count) l.fn.cursor
