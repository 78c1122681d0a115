use Rattle.std.proofs.Common.{◌-◌, sym, ap, subst, ◌∙◌}
use Rattle.docc_prepare.specs.declared.attempt.Attempt.{Attempt}
use Rattle.call_programs.specs.Programs.{Program, bind}
use Rattle.call_programs.proofs.Programs.{here, and_then, bound}
use Rattle.session_core.specs.Events.{said}
use Rattle.session_core.specs.Holding.{Holds}
use Rattle.session_core.specs.Verbs.{try_times, closing, tries_at}
use Rattle.session_core.proofs.Kept.{opened-holds}
use Rattle.session_core.proofs.Performing.{is_none, busy_is, free_is, ended_as}
use Rattle.session_core.proofs.Stopping.{does_fail, short_in, short_of}
use Rattle.session_core.proofs.verbs.commit.Goals as goal

pub returns-then-is_some-clause-plays : goal.returns-then-is_some-clause-plays
returns-then-is_some-clause-plays g c =
    here (busy_is c.args.session.now (tries_at (g.B.Backend.known c.args.backend.now).shards c.args.tries c.args.session.now c.args.body)
    (sym c.is_some.ensures ∙ c.if-is_some.true))

pub returns-in_err-reply-clause-plays : goal.returns-in_err-reply-clause-plays
returns-in_err-reply-clause-plays g c =
    let s = c.args.session.now in
    let free = free_is s (tries_at (g.B.Backend.known c.args.backend.now).shards c.args.tries s c.args.body)
    (is_none s.attempt (sym c.is_some.ensures ∙ c.if-is_some.false))
    ∙ ap (λ (a : Attempt). bind (try_times (c.args.tries - 1) s a) (closing s)) (sym c.opened-attempt.ensures) in
    does_fail _ c.from_residual.result c.from_residual.ensures.1 (short_of free (short_in (closing s) c.in_err-reply.ensures.plays))

pub returns-clause-plays : goal.returns-clause-plays
returns-clause-plays g c =
    let s = c.args.session.now in
    let none = is_none s.attempt (sym c.is_some.ensures ∙ c.if-is_some.false) in
    let free = free_is s (tries_at (g.B.Backend.known c.args.backend.now).shards c.args.tries s c.args.body) none
    ∙ ap (λ (a : Attempt). bind (try_times (c.args.tries - 1) s a) (closing s)) (sym c.opened-attempt.ensures) in
    and_then (here free) (bound (closing s) c.in_ok-reply.ensures.plays
    (here (ap (λ t. Program.ends (t, said c.in_ok-reply.reply))
    (ended_as s s.attempt c.next_seq-session.result c.in_ok-reply.reply none c.next_seq-session.ensures))))

-- an attempt that has read nothing holds
pub try_times-requires-clause-holds : goal.try_times-requires-clause-holds
try_times-requires-clause-holds g c =
    let known = g.B.Backend.known c.args.backend.now in
    subst (Holds known) (sym c.opened-attempt.ensures)
    (opened-holds known c.args.session.now c.args.body c.requires.attends c.requires.ready)
