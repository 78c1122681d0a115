use Rattle.std.proofs.Common.{◌≡◌, refl, subst, sym}
use Rattle.docc_prepare.specs.Attempts.{ready_of}
use Rattle.docc_prepare.specs.Backends.{CanAppend}
use Rattle.call_programs.specs.Programs.{Leads}
use Rattle.session_core.specs.Events.{closed}
use Rattle.session_core.specs.Stopping.{StopsShort}
use Rattle.session_core.proofs.Kept.{can-append}
use Rattle.session_core.proofs.Performing.{no_fault}
use Rattle.session_core.proofs.Stopping.{does_fail}
use Rattle.session_core.proofs.event.append_last.Goals as goal

pub handed-requires : goal.handed-requires
handed-requires g c =
    let e : c.in_ok-ready.ready ≡ ready_of c.args.attempt c.args.last.run c.args.session.now.client c.args.session.now.seq = c.in_ok-ready.ensures.ok in
    subst (CanAppend (g.B.Backend.known c.args.backend.now)) (sym e)
    (can-append (g.B.Backend.known c.args.backend.now) (closed c.args.session.now) c.args.attempt c.args.last.run c.requires.attends c.requires.holds
    c.requires.next)

pub returns-in_err-ready-clause-plays : goal.returns-in_err-ready-clause-plays
returns-in_err-ready-clause-plays g c =
    does_fail _ c.from_residual.result c.from_residual.ensures.1
    (StopsShort.before Leads.stays (no_fault (c.in_err-ready.ensures.err c.in_err-ready.field-0.0 refl)))

pub returns-clause-plays : goal.returns-clause-plays
returns-clause-plays g c =
    c.handed.ensures.plays c.args.session.now c.args.attempt
    (record { run = c.args.last.run; next = c.requires.next; is = c.in_ok-ready.ensures.ok })
