use Rattle.std.proofs.Common.{sym, ap, ◌∙◌}
use Rattle.rerun_driver.specs.Watches.{watch_of}
use Rattle.call_programs.specs.Programs.{Program, Leads}
use Rattle.call_programs.proofs.Programs.{and_then, bound, here, stops_in, stops_after, stops_behind, fails}
use Rattle.client_watches.specs.Lines as lines
use Rattle.client_watches.proofs.Lined.{free-name}
use Rattle.client_watches.proofs.Parts.{wants, made_after, watch_refused, watch_made}
use Rattle.client_watches.proofs.watching.Watching.watch_by.Goals as goal

pub returns-in_err-refusal-clause-plays : goal.returns-in_err-refusal-clause-plays
returns-in_err-refusal-clause-plays g c = fails _ c.from_residual.result c.from_residual.ensures.1 (wants Leads.stays)

pub returns-then-has-clause-plays : goal.returns-then-has-clause-plays
returns-then-has-clause-plays g c =
    here (watch_refused c.args.self.now c.args.new_watch.name c.args.new_watch.body (sym c.has.ensures ∙ c.if-has.true)
    ∙ ap (λ said. Program.ends (c.args.self.now, said)) (sym c.in_ok-refusal.ensures))

pub returns-in_err-said-clause-plays : goal.returns-in_err-said-clause-plays
returns-in_err-said-clause-plays g c = fails _ c.from_residual-in_err-said.result c.from_residual-in_err-said.ensures.1 (wants Leads.stays)

pub returns-in_err-take-clause-plays : goal.returns-in_err-take-clause-plays
returns-in_err-take-clause-plays g c =
    let begun = here (watch_made c.args.self.now c.args.new_watch.name c.args.new_watch.body (sym c.has.ensures ∙ c.if-has.false)) in
    fails _ c.from_residual-in_err-take.result c.from_residual-in_err-take.ensures.1
    (stops_behind begun (stops_in (made_after c.args.new_watch.name c.args.new_watch.body) c.in_err-take.ensures.plays))

pub returns-in_err-make-clause-plays : goal.returns-in_err-make-clause-plays
returns-in_err-make-clause-plays g c =
    let begun = here (watch_made c.args.self.now c.args.new_watch.name c.args.new_watch.body (sym c.has.ensures ∙ c.if-has.false)) in
    let made = rw c.in_ok-said.ensures at c.in_err-make.ensures.plays in
    fails _ c.from_residual-in_err-make.result c.from_residual-in_err-make.ensures.1
    (stops_behind begun (stops_after (made_after c.args.new_watch.name c.args.new_watch.body) c.in_ok-take.ensures.plays (stops_in lines.ending made)))

pub returns-in_err-drop_idle-clause-plays : goal.returns-in_err-drop_idle-clause-plays
returns-in_err-drop_idle-clause-plays g c =
    let begun = here (watch_made c.args.self.now c.args.new_watch.name c.args.new_watch.body (sym c.has.ensures ∙ c.if-has.false)) in
    let made = rw c.in_ok-said.ensures at c.in_ok-make.ensures.plays in
    fails _ c.from_residual-in_err-drop_idle.result c.from_residual-in_err-drop_idle.ensures.1
    (stops_behind begun (stops_after (made_after c.args.new_watch.name c.args.new_watch.body) c.in_ok-take.ensures.plays (stops_after lines.ending made
    (stops_in (λ w. Program.ends (w, c.make.new.said)) c.in_err-drop_idle.ensures.plays))))

pub returns-clause-plays : goal.returns-clause-plays
returns-clause-plays g c =
    let begun = here (watch_made c.args.self.now c.args.new_watch.name c.args.new_watch.body (sym c.has.ensures ∙ c.if-has.false)) in
    let made = rw c.in_ok-said.ensures at c.in_ok-make.ensures.plays in
    and_then begun (bound (made_after c.args.new_watch.name c.args.new_watch.body) c.in_ok-take.ensures.plays (bound lines.ending made
    (bound (λ w. Program.ends (w, c.make.new.said)) c.in_ok-drop_idle.ensures.plays Leads.stays)))

pub make-requires-clause-free : goal.make-requires-clause-free
make-requires-clause-free g c =
    c.in_ok-take.ensures.free c.args.new_watch.name (free-name (watch_of c.args.self.now.watches c.args.new_watch.name) (sym c.has.ensures ∙ c.if-has.false))
