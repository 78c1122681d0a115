use Rattle.std.proofs.Common.{◌++◌, ◌∷◌, [], None, Err, refl, sym, ap, ◌∙◌}
use Rattle.docc_prepare.specs.Calls.{Answer, value_answered}
use Rattle.call_programs.specs.Programs.{Program, Leads}
use Rattle.call_programs.proofs.Programs.{one_call, call_broken, stops_behind, fails}
use Rattle.client_watches.proofs.Parts.{wants, failed, read_broken, read_late, late_succeeds}
use Rattle.client_watches.proofs.fetching.fetch.Goals as goal

pub returns-in_err-asked-clause-plays : goal.returns-in_err-asked-clause-plays
returns-in_err-asked-clause-plays g c = fails _ c.from_residual.result c.from_residual.ensures.1 (wants Leads.stays)

pub returns-in_err-reply_of-in-Err-clause-plays : goal.returns-in_err-reply_of-in-Err-clause-plays
returns-in_err-reply_of-in-Err-clause-plays g c =
    let step = rw c.at.ensures at c.in-Err.ensures.goes in
    fails _ c.from_residual-in_err-reply_of-in-Err.result c.from_residual-in_err-reply_of-in-Err.ensures.1
    (call_broken (value_answered (Err c.in-Err.error)) step (read_broken c.in-Err.error c.in_err-reply_of-in-Err.field-0.0 c.in_err-reply_of-in-Err.ensures))

pub returns-in-Err-clause-plays : goal.returns-in-Err-clause-plays
returns-in-Err-clause-plays g c =
    let step = rw c.at.ensures at c.in-Err.ensures.goes in
    one_call (value_answered (Err c.in-Err.error)) step
    (late_succeeds c.in_ok-reply_of-in-Err.field-0 c.in-Err.error c.in_ok-reply_of-in-Err.ensures)
    (read_late c.args.watching.now c.args.address c.in_ok-reply_of-in-Err.field-0 c.in-Err.error c.in_ok-reply_of-in-Err.ensures)

pub returns-in_err-subscribe-clause-plays : goal.returns-in_err-subscribe-clause-plays
returns-in_err-subscribe-clause-plays g c =
    let step = rw c.at.ensures at c.in-Ok.ensures.goes in
    fails _ c.from_residual-in_err-subscribe.result c.from_residual-in_err-subscribe.ensures.1
    (stops_behind (one_call (Answer.value c.in-Ok.value) step tt refl) (failed c.in_err-subscribe.field-0.0 c.in_err-subscribe.ensures.goes))

pub returns-in_err-fill-clause-plays : goal.returns-in_err-fill-clause-plays
returns-in_err-fill-clause-plays g c =
    let step = rw c.at.ensures at c.in-Ok.ensures.goes in
    fails _ c.from_residual-in_err-fill.result c.from_residual-in_err-fill.ensures.1
    (wants (Leads.by_call (Answer.value c.in-Ok.value) step tt (one_call Answer.done c.in_ok-subscribe.ensures.goes tt refl)))

pub returns-in_err-push-clause-plays : goal.returns-in_err-push-clause-plays
returns-in_err-push-clause-plays g c =
    let step = rw c.at.ensures at c.in-Ok.ensures.goes in
    fails _ c.from_residual-in_err-push.result c.from_residual-in_err-push.ensures.1
    (wants (Leads.by_call (Answer.value c.in-Ok.value) step tt (one_call Answer.done c.in_ok-subscribe.ensures.goes tt refl)))

pub returns-clause-plays : goal.returns-clause-plays
returns-clause-plays g c =
    let step = rw c.at.ensures at c.in-Ok.ensures.goes in
    Leads.by_call (Answer.value c.in-Ok.value) step tt (one_call Answer.done c.in_ok-subscribe.ensures.goes tt (λ i. Program.ends (
      None,
      record {
        watches = c.args.watching.now.watches;
        cache = sym c.in_ok-fill.ensures.ok i;
        loose = sym (c.in_ok-push.ensures.ok ∙ ap (λ a. c.args.watching.now.loose ++ a ∷ []) c.in_ok-asked.ensures) i;
      },
    )))
