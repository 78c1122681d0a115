use Rattle.std.proofs.Common.{sym, ap, ◌∙◌}
use Rattle.journal_core.specs.Journals.{Standing}
use Rattle.hold_core.specs.Books.{book_of}
use Rattle.hold_core.proofs.Beside.{is-book-of}
use Rattle.local_world.proofs.Decided.{by-clash}
use Rattle.local_world.proofs.deciding.decide.Goals as goal

pub returns-in-Some-clause-decided : goal.returns-in-Some-clause-decided
returns-in-Some-clause-decided g c = λ s of.
    by-clash c.args.ready.now c.args.journal.now c.reserve.new.self c.reserve.ensures.same c.requires.may s of c.in-Some.found c.in_ok-witness.witness
    c.in-Some.ensures.least c.in_ok-witness.ensures.names

pub enter-requires-clause-book : goal.enter-requires-clause-book
enter-requires-clause-book g c =
    is-book-of 0 c.args.holds.now c.reserve.new.self.commits
    (c.requires.book ∙ ap (λ (s : Standing). book_of 0 s.commits) (sym c.reserve.ensures.same))
