use Rattle.std.proofs.Common.{refl}
use Rattle.docc_prepare.specs.Calls.{Call, Answer}
use Rattle.call_programs.specs.Programs.{Leads}
use Rattle.session_core.specs.Events.{closed}
use Rattle.session_core.proofs.Approaching.{came_next, came_end, append_ends}
use Rattle.session_core.proofs.Kept.{holds-on}
use Rattle.session_core.proofs.Safe.{refreshed_on}
use Rattle.session_core.proofs.Stopping.{does_fail, short_failed, short_call, does_call}
use Rattle.session_core.proofs.driving.attempt_once.Goals as goal

pub until_append-requires-clause-attends : goal.until_append-requires-clause-attends
until_append-requires-clause-attends g c =
    refreshed_on (g.B.Backend.known c.args.backend.now) (g.B.Backend.known c.refresh.new.self) (closed c.args.session.now) c.in_ok-refresh.field-0
    c.in_ok-refresh.ensures.goes.answered c.requires.attends

pub until_append-requires-clause-holds : goal.until_append-requires-clause-holds
until_append-requires-clause-holds g c =
    let step = c.in_ok-refresh.ensures.goes.answered in
    holds-on (g.B.Backend.known c.args.backend.now) (g.B.Backend.known c.refresh.new.self) c.args.attempt.now Call.refresh
    (Answer.number c.in_ok-refresh.field-0) step step.keeps c.requires.holds

pub append_event-requires-clause-attends : goal.append_event-requires-clause-attends
append_event-requires-clause-attends g c = (came_next c.args.session.now c.in-Append.is c.in_ok-end.ensures.approaches).attends

pub append_event-requires-clause-holds : goal.append_event-requires-clause-holds
append_event-requires-clause-holds g c = (came_next c.args.session.now c.in-Append.is c.in_ok-end.ensures.approaches).holds

pub append_event-requires-clause-next : goal.append_event-requires-clause-next
append_event-requires-clause-next g c = (came_next c.args.session.now c.in-Append.is c.in_ok-end.ensures.approaches).next

pub append_event-requires-clause-based : goal.append_event-requires-clause-based
append_event-requires-clause-based g c = (came_next c.args.session.now c.in-Append.is c.in_ok-end.ensures.approaches).all

pub returns-in_err-refresh-clause-plays : goal.returns-in_err-refresh-clause-plays
returns-in_err-refresh-clause-plays g c =
    does_fail _ c.from_residual.result c.from_residual.ensures.1 (short_failed c.in_err-refresh.field-0.0 c.in_err-refresh.ensures.goes)

pub returns-in_err-end-clause-plays : goal.returns-in_err-end-clause-plays
returns-in_err-end-clause-plays g c =
    does_fail _ c.from_residual-in_err-end.result c.from_residual-in_err-end.ensures.1
    (short_call (Answer.number c.in_ok-refresh.field-0) c.in_ok-refresh.ensures.goes tt refl c.in_err-end.ensures.approaches)

pub returns-in-End-clause-plays : goal.returns-in-End-clause-plays
returns-in-End-clause-plays g c =
    Leads.by_call (Answer.number c.in_ok-refresh.field-0) c.in_ok-refresh.ensures.goes tt
    (came_end c.args.session.now _ _ c.in-End.is c.in_ok-end.ensures.approaches)

pub returns-in-Append-clause-plays : goal.returns-in-Append-clause-plays
returns-in-Append-clause-plays g c =
    let at = came_next c.args.session.now c.in-Append.is c.in_ok-end.ensures.approaches in
    does_call _ _ _ c.append_event.result (Answer.number c.in_ok-refresh.field-0) c.in_ok-refresh.ensures.goes tt refl
    (append_ends c.args.session.now _ _ _ at.left c.append_event.result at.led c.append_event.ensures.plays)
