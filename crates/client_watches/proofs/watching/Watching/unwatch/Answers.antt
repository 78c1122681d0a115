use Rattle.std.proofs.Common.{subst, sym, ap, ◌∙◌}
use Rattle.call_programs.specs.Programs.{Program, Leads}
use Rattle.call_programs.proofs.Programs.{and_then, bound, here, stops_in, stops_behind, fails}
use Rattle.client_watches.specs.Lines as lines
use Rattle.client_watches.specs.Keeping.{Keeps}
use Rattle.client_watches.proofs.Kept.{keeps-without}
use Rattle.client_watches.proofs.Parts.{wants, unwatch_refused, unwatch_named}
use Rattle.client_watches.proofs.watching.Watching.unwatch.Goals as goal

pub returns-in_err-refusal-clause-plays : goal.returns-in_err-refusal-clause-plays
returns-in_err-refusal-clause-plays g c = fails _ c.from_residual.result c.from_residual.ensures.1 (wants Leads.stays)

pub returns-then-not-has-clause-plays : goal.returns-then-not-has-clause-plays
returns-then-not-has-clause-plays g c =
    here (unwatch_refused c.args.self.now c.args.name.now (sym c.has.ensures ∙ c.if-not-has.true)
    ∙ ap (λ said. Program.ends (c.args.self.now, said)) (sym c.in_ok-refusal.ensures))

pub returns-in_err-dropped-clause-plays : goal.returns-in_err-dropped-clause-plays
returns-in_err-dropped-clause-plays g c = fails _ c.from_residual-in_err-dropped.result c.from_residual-in_err-dropped.ensures.1 (wants Leads.stays)

pub returns-in_err-forget-clause-plays : goal.returns-in_err-forget-clause-plays
returns-in_err-forget-clause-plays g c = fails _ c.from_residual-in_err-forget.result c.from_residual-in_err-forget.ensures.1 (wants Leads.stays)

pub returns-in_err-drop_idle-clause-plays : goal.returns-in_err-drop_idle-clause-plays
returns-in_err-drop_idle-clause-plays g c =
    let begun = here (unwatch_named c.args.self.now c.args.name.now (sym c.has.ensures ∙ c.if-not-has.false)
    ∙ (λ i. lines.ending (sym c.in_ok-forget.ensures i, sym c.in_ok-dropped.ensures i))) in
    fails _ c.from_residual-in_err-drop_idle.result c.from_residual-in_err-drop_idle.ensures.1
    (stops_behind begun (stops_in (λ w. Program.ends (w, c.in_ok-dropped.dropped)) c.in_err-drop_idle.ensures.plays))

pub returns-clause-plays : goal.returns-clause-plays
returns-clause-plays g c =
    let begun = here (unwatch_named c.args.self.now c.args.name.now (sym c.has.ensures ∙ c.if-not-has.false)
    ∙ (λ i. lines.ending (sym c.in_ok-forget.ensures i, sym c.in_ok-dropped.ensures i))) in
    and_then begun (bound (λ w. Program.ends (w, c.in_ok-dropped.dropped)) c.in_ok-drop_idle.ensures.plays Leads.stays)

pub drop_idle-requires : goal.drop_idle-requires
drop_idle-requires g c =
    subst (Keeps (g.B.Backend.known c.args.backend.now)) (sym c.in_ok-forget.ensures)
    (keeps-without (g.B.Backend.known c.args.backend.now) c.args.self.now c.requires c.args.name.now)
