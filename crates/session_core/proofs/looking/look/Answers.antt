use Rattle.std.proofs.Common.{ap, ◌∙◌, arith}
use Rattle.docc_prepare.specs.Calls.{Answer}
use Rattle.call_programs.proofs.Programs.{one_call, call_failed, fails}
use Rattle.session_core.specs.Verbs.{look_from}
use Rattle.session_core.proofs.Performing.{fault_is, performs_behind, from_ahead, from_seen}
use Rattle.session_core.proofs.Safe.{refreshed_on}
use Rattle.session_core.proofs.looking.look.Goals as goal

pub look_at-requires-clause-attends : goal.look_at-requires-clause-attends
look_at-requires-clause-attends g c =
    refreshed_on (g.B.Backend.known c.args.backend.now) (g.B.Backend.known c.refresh.new.self) c.args.session.now c.in_ok-seen.seen
    c.in_ok-seen.ensures.goes.answered c.requires.attends

pub look_at-requires-in-Some-clause-attends : goal.look_at-requires-in-Some-clause-attends
look_at-requires-in-Some-clause-attends g c =
    refreshed_on (g.B.Backend.known c.args.backend.now) (g.B.Backend.known c.refresh.new.self) c.args.session.now c.in_ok-seen.seen
    c.in_ok-seen.ensures.goes.answered c.requires.attends

pub returns-in_err-seen-clause-plays : goal.returns-in_err-seen-clause-plays
returns-in_err-seen-clause-plays g c =
    fails _ c.from_residual.result c.from_residual.ensures.1
    (call_failed c.in_err-seen.field-0.0 c.in_err-seen.ensures.goes (fault_is c.in_err-seen.field-0.0))

pub returns-in-None-clause-plays : goal.returns-in-None-clause-plays
returns-in-None-clause-plays g c =
    performs_behind _ _ _ c.look_at.result
    (one_call (Answer.number c.in_ok-seen.seen) c.in_ok-seen.ensures.goes tt
    (ap (λ upto. look_from upto c.args.body.now c.in_ok-seen.seen) c.in-None.is))
    c.look_at.ensures.plays

pub returns-then-seen-number-clause-plays : goal.returns-then-seen-number-clause-plays
returns-then-seen-number-clause-plays g c =
    one_call (Answer.number c.in_ok-seen.seen) c.in_ok-seen.ensures.goes tt
    (ap (λ upto. look_from upto c.args.body.now c.in_ok-seen.seen) c.in-Some.is
    ∙ from_ahead c.args.body.now c.in_ok-seen.seen c.in-Some.number (let h = c.if-seen-number.true in omega arith))

pub returns-else-seen-number-clause-plays : goal.returns-else-seen-number-clause-plays
returns-else-seen-number-clause-plays g c =
    performs_behind _ _ _ c.look_at-in-Some.result
    (one_call (Answer.number c.in_ok-seen.seen) c.in_ok-seen.ensures.goes tt
    (ap (λ upto. look_from upto c.args.body.now c.in_ok-seen.seen) c.in-Some.is
    ∙ from_seen c.args.body.now c.in_ok-seen.seen c.in-Some.number (let h = c.if-seen-number.false in omega arith)))
    c.look_at-in-Some.ensures.plays
