use Rattle.std.proofs.Common.{◌≡◌, ℕ, ◌+◌, ◌-◌, refl, sym, ap, subst, ◌∙◌, arith}
use Rattle.session_text.specs.declared.reply.Reply.{Reply}
use Rattle.docc_prepare.specs.Calls.{Call, Answer}
use Rattle.call_programs.specs.Programs.{Leads}
use Rattle.call_programs.proofs.Programs.{here, to_same, and_then, bound}
use Rattle.session_core.specs.Events.{closed}
use Rattle.session_core.specs.Holding.{Holds}
use Rattle.session_core.specs.Verbs.{AttemptEnd, attempt_once, or_again, then_again, last_shown, try_times}
use Rattle.session_core.proofs.Kept.{holds-on}
use Rattle.session_core.proofs.Performing.{try_round, once_asks}
use Rattle.session_core.proofs.Safe.{once_goes_on, refreshed_on}
use Rattle.session_core.proofs.Stopping.{does_fail, does_behind, does_made, does_call, short_in, short_behind, short_failed}
use Rattle.session_core.proofs.driving.try_times.Goals as goal

pub loop-init : goal.loop-init
loop-init g c = record { plays = Leads.stays; attends = c.requires.attends; holds = c.requires.holds; home = refl }

pub returns-in_err-reply-clause-plays : goal.returns-in_err-reply-clause-plays
returns-in_err-reply-clause-plays g c =
    let more = try_times (c.args.tries - (c.loop.counter + 1)) c.args.session.now in
    does_fail _ c.from_residual.result c.from_residual.ensures.1
    (short_behind (to_same (try_round c.args.tries c.loop.counter c.args.session.now c.loop.attempt (omega arith)) c.loop.invariant.plays)
    (once_asks c.args.session.now c.loop.attempt (then_again more)) (short_in (then_again more) c.in_err-reply.ensures.plays))

pub returns-in-Some-clause-plays : goal.returns-in-Some-clause-plays
returns-in-Some-clause-plays g c =
    let more = try_times (c.args.tries - (c.loop.counter + 1)) c.args.session.now in
    and_then (to_same (try_round c.args.tries c.loop.counter c.args.session.now c.loop.attempt (omega arith)) c.loop.invariant.plays)
    (bound (then_again more) c.in_ok-reply.ensures.plays
    (here (ap (or_again more c.attempt_once.new.attempt) (sym c.unless_abort.ensures ∙ c.in-Some.is))))

pub loop-preserved : goal.loop-preserved
loop-preserved g c =
    let last = c.attempt_once.new.attempt in
    let more = try_times (c.args.tries - (c.loop.counter + 1)) c.args.session.now in
    let unshown = sym c.unless_abort.ensures ∙ c.in_default.is in
    let on = once_goes_on c.args.session.now c.loop.invariant.attends c.loop.invariant.holds unshown c.in_ok-reply.ensures.plays in
    record {
      plays = and_then (to_same (try_round c.args.tries c.loop.counter c.args.session.now c.loop.attempt (omega arith)) c.loop.invariant.plays)
          (bound (then_again more) c.in_ok-reply.ensures.plays
          (here (ap (or_again more last) unshown ∙ ap more (sym c.afresh-attempt.ensures))));
      attends = on.0;
      holds = subst (Holds (g.B.Backend.known c.attempt_once.new.backend)) (sym c.afresh-attempt.ensures) on.1;
      home = c.attempt_once.ensures.home ∙ c.loop.invariant.home;
    }

-- ---- the last attempt

pub drive-requires-clause-attends : goal.drive-requires-clause-attends
drive-requires-clause-attends g c =
    refreshed_on (g.B.Backend.known c.loop.backend) (g.B.Backend.known c.refresh.new.self) (closed c.args.session.now) c.in_ok-refresh.field-0
    c.in_ok-refresh.ensures.goes.answered c.loop.invariant.attends

pub drive-requires-clause-holds : goal.drive-requires-clause-holds
drive-requires-clause-holds g c =
    let step = c.in_ok-refresh.ensures.goes.answered in
    holds-on (g.B.Backend.known c.loop.backend) (g.B.Backend.known c.refresh.new.self) c.loop.attempt Call.refresh
    (Answer.number c.in_ok-refresh.field-0) step step.keeps c.loop.invariant.holds

pub returns-in_err-refresh-clause-plays : goal.returns-in_err-refresh-clause-plays
returns-in_err-refresh-clause-plays g c =
    let s = c.args.session.now in
    let last : c.args.tries - c.loop.counter ≡ 0 = omega arith in
    does_behind _ _ c.from_residual-in_err-refresh.result
    (to_same (ap (λ (n : ℕ). try_times n s c.loop.attempt) last) c.loop.invariant.plays)
    (once_asks s c.loop.attempt last_shown)
    (does_made _ _ _ _ (attempt_once s c.loop.attempt) (λ (r : Reply). (c.loop.attempt, r)) (λ (end : AttemptEnd). end.1) c.from_residual-in_err-refresh.result
    (does_fail _ c.from_residual-in_err-refresh.result c.from_residual-in_err-refresh.ensures.1
    (short_failed c.in_err-refresh.field-0.0 c.in_err-refresh.ensures.goes)))

pub returns-clause-plays : goal.returns-clause-plays
returns-clause-plays g c =
    let s = c.args.session.now in
    let last : c.args.tries - c.loop.counter ≡ 0 = omega arith in
    let drives = c.drive.ensures.plays in
    does_behind _ _ c.drive.result
    (to_same (ap (λ (n : ℕ). try_times n s c.loop.attempt) last) c.loop.invariant.plays)
    (once_asks s c.loop.attempt last_shown)
    (does_made _ _ _ _ (attempt_once s c.loop.attempt) (λ (r : Reply). (drives.0, r)) (λ (end : AttemptEnd). end.1) c.drive.result
    (does_call _ _ _ c.drive.result (Answer.number c.in_ok-refresh.field-0) c.in_ok-refresh.ensures.goes tt refl drives.1))
