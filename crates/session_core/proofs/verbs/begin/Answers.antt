use Rattle.std.proofs.Common.{Some, sym, ap, ◌∙◌}
use Rattle.session_text.specs.declared.reply.Reply.TheVariants as reply
use Rattle.docc_prepare.specs.Calls.{Answer}
use Rattle.call_programs.specs.Programs.{Program}
use Rattle.call_programs.proofs.Programs.{here, and_then, one_call}
use Rattle.session_core.specs.Events.{with_attempt, said}
use Rattle.session_core.specs.Verbs.{opens}
use Rattle.session_core.proofs.Performing.{is_none, busy_is, free_is}
use Rattle.session_core.proofs.Stopping.{does_fail, short_of, short_failed}
use Rattle.session_core.proofs.verbs.begin.Goals as goal

pub returns-then-is_some-clause-plays : goal.returns-then-is_some-clause-plays
returns-then-is_some-clause-plays g c =
    here (busy_is c.args.session.now (opens (g.B.Backend.known c.args.backend.now).shards c.args.session.now c.args.body)
    (sym c.is_some.ensures ∙ c.if-is_some.true))

pub returns-in_err-seen-clause-plays : goal.returns-in_err-seen-clause-plays
returns-in_err-seen-clause-plays g c =
    let free = free_is c.args.session.now (opens (g.B.Backend.known c.args.backend.now).shards c.args.session.now c.args.body)
    (is_none c.args.session.now.attempt (sym c.is_some.ensures ∙ c.if-is_some.false)) in
    does_fail _ c.from_residual.result c.from_residual.ensures.1 (short_of free (short_failed c.in_err-seen.field-0.0 c.in_err-seen.ensures.goes))

pub returns-clause-plays : goal.returns-clause-plays
returns-clause-plays g c =
    let free = free_is c.args.session.now (opens (g.B.Backend.known c.args.backend.now).shards c.args.session.now c.args.body)
    (is_none c.args.session.now.attempt (sym c.is_some.ensures ∙ c.if-is_some.false)) in
    and_then (here free) (one_call (Answer.number c.in_ok-seen.seen) c.in_ok-seen.ensures.goes tt
    (ap (λ a. Program.ends (with_attempt c.args.session.now (Some a), said (reply.Seen c.in_ok-seen.seen))) (sym c.opened-attempt.ensures)))
