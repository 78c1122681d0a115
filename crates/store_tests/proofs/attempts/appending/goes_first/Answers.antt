use Rattle.store_tests.proofs.Appending.{slot-stays}
use Rattle.store_tests.proofs.attempts.appending.goes_first.Goals as goal

-- what was reserved first serves still
pub cleared-answer-requires-clause-can : goal.cleared-answer-requires-clause-can
cleared-answer-requires-clause-can c =
    slot-stays _ c.args.first.now c.in_ok-slot.slot c.args.journal.now c.reserve.new.self c.reserve-2.new.self c.in_ok-slot.ensures.same
    c.reserve-2.ensures.same c.reserve-2.ensures.kept c.in_ok-slot.ensures.slot c.requires.run c.requires.body_text c.requires.next
