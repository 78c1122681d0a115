use Rattle.std.proofs.Common.{Option, sym, ap, ◌∙◌}
use Rattle.session_text.specs.declared.reply.Reply.TheVariants as reply
use Rattle.session_text.specs.declared.reply.Why.TheVariants as why
use Rattle.docc_prepare.specs.declared.attempt.Attempt.{Attempt}
use Rattle.call_programs.specs.Programs.{Program, bind}
use Rattle.call_programs.proofs.Programs.{here, and_then, bound}
use Rattle.session_core.specs.declared.session.Session.{Session}
use Rattle.session_core.specs.Events.{with_attempt, said}
use Rattle.session_core.specs.Verbs.{LineEnd, AttemptEnd, drive, closing, goes_on}
use Rattle.session_core.proofs.Performing.{closed_is, open_is, ended_as}
use Rattle.session_core.proofs.Stopping.{does_fail, short_in, short_of}
use Rattle.session_core.proofs.verbs.go.Goals as goal

-- the end of the open attempt is shown
abbrev shown : Session → AttemptEnd → Program LineEnd
shown s end = closing s end.1

pub returns-in-None-clause-plays : goal.returns-in-None-clause-plays
returns-in-None-clause-plays g c =
    let s = c.args.session.now in
    let none = sym c.take.ensures.value ∙ c.in-None.is in
    here (closed_is s (goes_on s) none
    ∙ ap (λ o. Program.ends (with_attempt s o, said (reply.Refused why.NoAttempt))) (none ∙ sym c.take.ensures.after))

pub returns-in_err-reply-in-Some-clause-plays : goal.returns-in_err-reply-in-Some-clause-plays
returns-in_err-reply-in-Some-clause-plays g c =
    let s = c.args.session.now in
    let begun = open_is s (goes_on s) c.in-Some.attempt (sym c.take.ensures.value ∙ c.in-Some.is)
    ∙ ap (λ (o : Option Attempt). bind (drive (with_attempt s o) c.in-Some.attempt) (shown s)) (sym c.take.ensures.after) in
    does_fail _ c.from_residual.result c.from_residual.ensures.1 (short_of begun (short_in (shown s) c.in_err-reply-in-Some.ensures.plays.1))

pub returns-in_ok-reply-in-Some-clause-plays : goal.returns-in_ok-reply-in-Some-clause-plays
returns-in_ok-reply-in-Some-clause-plays g c =
    let s = c.args.session.now in
    let begun = open_is s (goes_on s) c.in-Some.attempt (sym c.take.ensures.value ∙ c.in-Some.is)
    ∙ ap (λ (o : Option Attempt). bind (drive (with_attempt s o) c.in-Some.attempt) (shown s)) (sym c.take.ensures.after) in
    and_then (here begun) (bound (shown s) c.in_ok-reply-in-Some.ensures.plays.1
    (here (ap (λ t. Program.ends (t, said c.in_ok-reply-in-Some.reply))
    (ended_as s c.take.new.self c.next_seq-session.result c.in_ok-reply-in-Some.reply c.take.ensures.after c.next_seq-session.ensures))))
