use Rattle.std.proofs.Common.{◌≡◌, Result, ap, refl, sym, subst, ◌∙◌}
use Rattle.std.specs.Prelude.{ℕ, IfOk}
use Rattle.docc_prepare.specs.Attempts.{with_front}
use Rattle.session_text.specs.declared.reply.Reply.{Reply}
use Rattle.call_programs.specs.Programs.{Leads}
use Rattle.call_programs.proofs.Programs.{here, bound}
use Rattle.session_core.specs.Verbs.{was_prepared}
use Rattle.session_core.specs.Stopping.{StopsShort}
use Rattle.session_core.specs.code.Approaching.{OneAtMost}
use Rattle.session_core.proofs.Approaching.{quiet, nears_fail, whole_near}
use Rattle.session_core.proofs.Performing.{no_fault}
use Rattle.session_core.proofs.Stopping.{short_in}
use Rattle.session_core.proofs.event.event_on.Goals as goal

pub returns-in_err-address-clause-nears : goal.returns-in_err-address-clause-nears
returns-in_err-address-clause-nears g c =
    nears_fail c.args.session.now _ _ c.from_residual.result c.from_residual.ensures.1
    (StopsShort.before Leads.stays (no_fault (c.in_err-address.ensures.err c.in_err-address.field-0.0 refl)))

pub returns-in_err-read_event-in-Read-clause-nears : goal.returns-in_err-read_event-in-Read-clause-nears
returns-in_err-read_event-in-Read-clause-nears g c =
    nears_fail c.args.session.now _ _ c.from_residual-in_err-read_event-in-Read.result c.from_residual-in_err-read_event-in-Read.ensures.1
    (short_in quiet c.in_err-read_event-in-Read.ensures.plays)

pub returns-in_ok-read_event-in-Read-clause-nears : goal.returns-in_ok-read_event-in-Read-clause-nears
returns-in_ok-read_event-in-Read-clause-nears g c = bound quiet c.in_ok-read_event-in-Read.ensures.plays Leads.stays

pub returns-in_err-all-in-Prepare-clause-nears : goal.returns-in_err-all-in-Prepare-clause-nears
returns-in_err-all-in-Prepare-clause-nears g c =
    nears_fail c.args.session.now _ _ c.from_residual-in_err-all-in-Prepare.result c.from_residual-in_err-all-in-Prepare.ensures.1
    (StopsShort.before Leads.stays (no_fault refl))

pub returns-in_err-prepare_event-in-Prepare-clause-nears : goal.returns-in_err-prepare_event-in-Prepare-clause-nears
returns-in_err-prepare_event-in-Prepare-clause-nears g c =
    nears_fail c.args.session.now _ _ c.from_residual-in_err-prepare_event-in-Prepare.result c.from_residual-in_err-prepare_event-in-Prepare.ensures.1
    (short_in quiet (c.in_err-prepare_event-in-Prepare.ensures.plays c.args.session.now))

pub returns-then-len-clause-nears : goal.returns-then-len-clause-nears
returns-then-len-clause-nears g c =
    whole_near c.args.session.now c.in-Prepare.shard c.in-Ok.field-0 c.in-Prepare.run' c.in_ok-all-in-Prepare.all
    (bound quiet (c.in_ok-prepare_event-in-Prepare.ensures.plays c.args.session.now)
    (here (ap (λ front. quiet (was_prepared c.in-Prepare.shard c.prepare_event.new.attempt front)) c.in-Ok.is)))
    (sym c.in_ok-address.ensures.ok ∙ c.in-Prepare.is) c.in_ok-all-in-Prepare.ensures
    (subst (λ (r : Result ℕ Reply). IfOk r (λ f. c.prepare_event.new.attempt ≡ with_front c.args.attempt.now c.in-Prepare.shard f)) c.in-Ok.is
    c.in_ok-prepare_event-in-Prepare.ensures.front)
    (sym c.len.ensures ∙ (c.if-len.true ∙ c.len-in-Ok.ensures))

pub returns-else-len-clause-nears : goal.returns-else-len-clause-nears
returns-else-len-clause-nears g c =
    bound quiet (c.in_ok-prepare_event-in-Prepare.ensures.plays c.args.session.now)
    (here (ap (λ front. quiet (was_prepared c.in-Prepare.shard c.prepare_event.new.attempt front)) c.in-Ok.is))

pub returns-in-Err-clause-nears : goal.returns-in-Err-clause-nears
returns-in-Err-clause-nears g c =
    bound quiet (c.in_ok-prepare_event-in-Prepare.ensures.plays c.args.session.now)
    (here (ap (λ front. quiet (was_prepared c.in-Prepare.shard c.prepare_event.new.attempt front)) c.in-Err.is))

pub returns-in-Append-clause-nears : goal.returns-in-Append-clause-nears
returns-in-Append-clause-nears g c = (OneAtMost.none_yet, (sym c.in_ok-address.ensures.ok ∙ c.in-Append.is, tt))
