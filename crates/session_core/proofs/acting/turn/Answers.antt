use Rattle.std.proofs.Common.{Err, refl, ap}
use Rattle.std.proofs.lemmas.Result.{err_from_is_err_and}
use Rattle.call_programs.specs.Programs.{Leads, Stops}
use Rattle.call_programs.proofs.Programs.{fails}
use Rattle.session_core.specs.declared.error.SessionError.TheVariants as error
use Rattle.session_core.specs.Holding.{Attends}
use Rattle.session_core.specs.LinePrograms.{line_over}
use Rattle.session_core.specs.Lines.{line_of}
use Rattle.session_core.specs.Stopping.{StopsShort}
use Rattle.session_core.proofs.Accounting.{line_attends, line_accounted, none-attends}
use Rattle.session_core.proofs.Performing.{no_fault}
use Rattle.session_core.proofs.Ready.{line-ready}
use Rattle.session_core.proofs.Stopping.{does_fail, does_of, plays_of}
use Rattle.session_core.proofs.acting.turn.Goals as goal

-- ---- the last of 64 bits

pub returns-then-session-clause-plays : goal.returns-then-session-clause-plays
returns-then-session-clause-plays g c = Stops.wants Leads.stays (no_fault refl)

pub returns-then-session-clause-accounted : goal.returns-then-session-clause-accounted
returns-then-session-clause-accounted g c =
    line_accounted g.B.Backend.known g.B.Backend.goes c.args.backend.now c.args.backend.now c.args.session.now c.args.session.now (line_of c.args.bytes.now) c.requires.attends (line-ready c.args.bytes.now c.requires.short)
    (Err error.NoMemory) (StopsShort.at_once refl (no_fault refl))

-- ---- a line that can't be read

pub returns-in_err-line-clause-plays : goal.returns-in_err-line-clause-plays
returns-in_err-line-clause-plays g c = fails _ c.from_residual.result c.from_residual.ensures.1 (Stops.wants Leads.stays (no_fault refl))

pub returns-in_err-line-clause-attends : goal.returns-in_err-line-clause-attends
returns-in_err-line-clause-attends g c =
    let p = err_from_is_err_and c.from_residual.result c.from_residual.ensures.1 in
    none-attends c.from_residual.result p.0 (Attends (g.B.Backend.known c.args.backend.now) c.args.session.now) p.1

pub returns-in_err-line-clause-accounted : goal.returns-in_err-line-clause-accounted
returns-in_err-line-clause-accounted g c =
    line_accounted g.B.Backend.known g.B.Backend.goes c.args.backend.now c.args.backend.now c.args.session.now c.args.session.now (line_of c.args.bytes.now) c.requires.attends (line-ready c.args.bytes.now c.requires.short)
    c.from_residual.result (does_fail _ c.from_residual.result c.from_residual.ensures.1 (StopsShort.at_once refl (no_fault refl)))

-- ---- one that can

pub returns-clause-plays : goal.returns-clause-plays
returns-clause-plays g c =
    plays_of _ _ _ _ _ _ c.act.result
    (does_of _ _ _ _ _ c.act.result (ap (line_over (g.B.Backend.known c.args.backend.now) c.args.session.now) c.in_ok-line.ensures.line_is) c.act.ensures.plays)

pub returns-clause-attends : goal.returns-clause-attends
returns-clause-attends g c =
    line_attends _ _ _ _ c.args.session.now c.act.new.session c.in_ok-line.line c.requires.attends c.in_ok-line.ensures.ready c.act.result c.act.ensures.plays

pub returns-clause-accounted : goal.returns-clause-accounted
returns-clause-accounted g c =
    line_accounted _ _ _ _ c.args.session.now c.act.new.session (line_of c.args.bytes.now) c.requires.attends (line-ready c.args.bytes.now c.requires.short)
    c.act.result
    (does_of _ _ _ _ _ c.act.result (ap (line_over (g.B.Backend.known c.args.backend.now) c.args.session.now) c.in_ok-line.ensures.line_is) c.act.ensures.plays)
