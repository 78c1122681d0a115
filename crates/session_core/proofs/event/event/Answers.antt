use Rattle.std.proofs.Common.{sym, ap, refl}
use Rattle.session_text.specs.declared.reply.Reply.TheVariants as reply
use Rattle.call_programs.specs.Programs.{Program, Leads}
use Rattle.call_programs.proofs.Programs.{to_same}
use Rattle.session_core.specs.declared.moved.Moved.TheVariants as moved
use Rattle.session_core.specs.Verbs.{was_prepared}
use Rattle.session_core.proofs.Performing.{no_fault}
use Rattle.session_core.specs.Stopping.{StopsShort}
use Rattle.session_core.proofs.Stopping.{does_fail}
use Rattle.session_core.proofs.event.event.Goals as goal

pub returns-in_err-address-clause-plays : goal.returns-in_err-address-clause-plays
returns-in_err-address-clause-plays g c =
    does_fail _ c.from_residual.result c.from_residual.ensures.1
    (StopsShort.before Leads.stays (no_fault (c.in_err-address.ensures.err c.in_err-address.field-0.0 refl)))

pub returns-in_err-shown-in-Read-clause-plays : goal.returns-in_err-shown-in-Read-clause-plays
returns-in_err-shown-in-Read-clause-plays g c =
    does_fail _ c.from_residual-in_err-shown-in-Read.result c.from_residual-in_err-shown-in-Read.ensures.1
    (StopsShort.before Leads.stays (no_fault (c.in_err-shown-in-Read.ensures.err c.in_err-shown-in-Read.field-0.0 refl)))

pub returns-in_err-base-in-Read-clause-plays : goal.returns-in_err-base-in-Read-clause-plays
returns-in_err-base-in-Read-clause-plays g c =
    does_fail _ c.from_residual-in_err-base-in-Read.result c.from_residual-in_err-base-in-Read.ensures.1 c.in_err-base-in-Read.ensures.plays

pub returns-in-Read-clause-plays : goal.returns-in-Read-clause-plays
returns-in-Read-clause-plays g c =
    to_same (ap (λ address. Program.ends (moved.More c.read_event.new.attempt (reply.Read address c.in_ok-base-in-Read.base)))
    (sym c.in_ok-shown-in-Read.ensures.ok)) c.in_ok-base-in-Read.ensures.plays

pub returns-in_err-all-in-Prepare-clause-plays : goal.returns-in_err-all-in-Prepare-clause-plays
returns-in_err-all-in-Prepare-clause-plays g c =
    does_fail _ c.from_residual-in_err-all-in-Prepare.result c.from_residual-in_err-all-in-Prepare.ensures.1
    (StopsShort.before Leads.stays (no_fault refl))

pub returns-in_err-front-in-Prepare-clause-plays : goal.returns-in_err-front-in-Prepare-clause-plays
returns-in_err-front-in-Prepare-clause-plays g c =
    does_fail _ c.from_residual-in_err-front-in-Prepare.result c.from_residual-in_err-front-in-Prepare.ensures.1
    (c.in_err-front-in-Prepare.ensures.plays c.args.session.now)

pub returns-in-Ok-clause-plays : goal.returns-in-Ok-clause-plays
returns-in-Ok-clause-plays g c =
    to_same (ap (λ front. Program.ends (was_prepared c.in-Prepare.shard c.prepare_event.new.attempt front)) c.in-Ok.is)
    (c.in_ok-front-in-Prepare.ensures.plays c.args.session.now)

pub returns-in-Prepare-clause-plays : goal.returns-in-Prepare-clause-plays
returns-in-Prepare-clause-plays g c =
    to_same (ap (λ front. Program.ends (was_prepared c.in-Prepare.shard c.prepare_event.new.attempt front)) c.in-Err.is)
    (c.in_ok-front-in-Prepare.ensures.plays c.args.session.now)

pub returns-in_err-reply-in-Append-clause-plays : goal.returns-in_err-reply-in-Append-clause-plays
returns-in_err-reply-in-Append-clause-plays g c =
    does_fail _ c.from_residual-in_err-reply-in-Append.result c.from_residual-in_err-reply-in-Append.ensures.1 c.in_err-reply-in-Append.ensures.plays

pub returns-clause-plays : goal.returns-clause-plays
returns-clause-plays g c = c.in_ok-reply-in-Append.ensures.plays
