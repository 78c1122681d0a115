use Rattle.std.proofs.Common.{◌≡◌, ◌-◌, length}
use Rattle.predictive_parsing.specs.Reading.{turns, many}
use Rattle.predictive_parsing.proofs.Loops.{with_front}
use Rattle.txn_parse.specs.code.Lists.{and_more}
use Rattle.txn_grammar.specs.code.Reader.{begins_statement, statement}
use Rattle.txn_parse.proofs.statement.Statements.and_more.Given as goal

-- what is found, and what the turns that are left will find, is all
abbrev pub invariant-loop : goal.invariant-loop
invariant-loop g l =
    let starts = begins_statement (l.self.levels - 1) in
    let item = statement (l.self.levels - 1) in
    with_front l.found (turns starts item (length l.fn.cursor - l.counter) l.cursor) ≡ and_more l.fn.found (many starts item) l.fn.cursor
