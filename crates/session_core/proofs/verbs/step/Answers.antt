use Rattle.std.proofs.Common.{Option, sym, ap, ◌∙◌}
use Rattle.session_text.specs.declared.reply.Reply.TheVariants as reply
use Rattle.session_text.specs.declared.reply.Why.TheVariants as why
use Rattle.docc_prepare.specs.declared.attempt.Attempt.{Attempt}
use Rattle.call_programs.specs.Programs.{Program, bind}
use Rattle.call_programs.proofs.Programs.{here, and_then, bound}
use Rattle.session_core.specs.Events.{with_attempt, said}
use Rattle.session_core.specs.Verbs.{event, stepped, steps}
use Rattle.session_core.proofs.Performing.{closed_is, open_is, ended_as}
use Rattle.session_core.proofs.Stopping.{does_fail, short_in, short_of}
use Rattle.session_core.proofs.verbs.step.Goals as goal

pub returns-in-None-clause-plays : goal.returns-in-None-clause-plays
returns-in-None-clause-plays g c =
    let s = c.args.session.now in
    let none = sym c.take.ensures.value ∙ c.in-None.is in
    here (closed_is s (steps s) none
    ∙ ap (λ o. Program.ends (with_attempt s o, said (reply.Refused why.NoAttempt))) (none ∙ sym c.take.ensures.after))

pub returns-in_err-attempt-in-Some-clause-plays : goal.returns-in_err-attempt-in-Some-clause-plays
returns-in_err-attempt-in-Some-clause-plays g c =
    let s = c.args.session.now in
    let begun = open_is s (steps s) c.in-Some.attempt (sym c.take.ensures.value ∙ c.in-Some.is)
    ∙ ap (λ (o : Option Attempt). bind (event (with_attempt s o) c.in-Some.attempt) (stepped s)) (sym c.take.ensures.after) in
    does_fail _ c.from_residual.result c.from_residual.ensures.1 (short_of begun (short_in (stepped s) c.in_err-attempt-in-Some.ensures.plays))

pub returns-in-More-clause-plays : goal.returns-in-More-clause-plays
returns-in-More-clause-plays g c =
    let s = c.args.session.now in
    let begun = open_is s (steps s) c.in-Some.attempt (sym c.take.ensures.value ∙ c.in-Some.is)
    ∙ ap (λ (o : Option Attempt). bind (event (with_attempt s o) c.in-Some.attempt) (stepped s)) (sym c.take.ensures.after) in
    and_then (here begun) (bound (stepped s) c.in_ok-attempt-in-Some.ensures.plays (here (ap (stepped s) c.in-More.is)))

pub returns-clause-plays : goal.returns-clause-plays
returns-clause-plays g c =
    let s = c.args.session.now in
    let begun = open_is s (steps s) c.in-Some.attempt (sym c.take.ensures.value ∙ c.in-Some.is)
    ∙ ap (λ (o : Option Attempt). bind (event (with_attempt s o) c.in-Some.attempt) (stepped s)) (sym c.take.ensures.after) in
    and_then (here begun) (bound (stepped s) c.in_ok-attempt-in-Some.ensures.plays (here (ap (stepped s) c.in-End.is
    ∙ ap (λ t. Program.ends (t, said c.in-End.reply))
    (ended_as s c.take.new.self c.next_seq-session.result c.in-End.reply c.take.ensures.after c.next_seq-session.ensures))))
