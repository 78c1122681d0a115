use Rattle.hold_core.proofs.Beside.{is-book-of, entered-is}
use Rattle.hold_core.proofs.book.enter.Goals as goal

pub returns-in-Some-clause-book : goal.returns-in-Some-clause-book
returns-in-Some-clause-book g c =
    is-book-of c.args.holds.now.from c.added.new.self c.append_clear-appended.new.self.commits
    (entered-is c.args.journal.now c.append_clear-appended.new.self c.args.slot.commit c.in-Some.commit.now c.in-Number.number c.args.holds.now
    c.added.new.self c.args.observations c.requires.can_add.next.number c.in-Number.ensures.adds c.in-Some.ensures c.requires.book
    c.requires.observed c.added.ensures)
