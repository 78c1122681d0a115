use Rattle.std.proofs.Common.{[]}
use Rattle.call_programs.specs.Programs.{Program, bind, Leads}
use Rattle.call_programs.proofs.Programs.{bound, stops_in, stops_after, fails}
use Rattle.client_watches.specs.declared.watching.Watching.{Watching}
use Rattle.client_watches.specs.Lines as lines
use Rattle.client_watches.proofs.Parts.{wants}
use Rattle.client_watches.proofs.watching.Watching.sync_by.Goals as goal

-- what follows once what changed was told
abbrev rest : Watching → Program lines.Told
rest v = bind (lines.say_current [] v) lines.ending

pub returns-in_err-said-clause-plays : goal.returns-in_err-said-clause-plays
returns-in_err-said-clause-plays g c = fails _ c.from_residual.result c.from_residual.ensures.1 (wants Leads.stays)

pub returns-in_err-take-clause-plays : goal.returns-in_err-take-clause-plays
returns-in_err-take-clause-plays g c =
    fails _ c.from_residual-in_err-take.result c.from_residual-in_err-take.ensures.1 (stops_in rest c.in_err-take.ensures.plays)

pub returns-in_err-say_current-clause-plays : goal.returns-in_err-say_current-clause-plays
returns-in_err-say_current-clause-plays g c =
    let said = rw c.in_ok-said.ensures at c.in_err-say_current.ensures.plays in
    fails _ c.from_residual-in_err-say_current.result c.from_residual-in_err-say_current.ensures.1
    (stops_after rest c.in_ok-take.ensures.plays (stops_in lines.ending said))

pub returns-in_err-drop_idle-clause-plays : goal.returns-in_err-drop_idle-clause-plays
returns-in_err-drop_idle-clause-plays g c =
    let said = rw c.in_ok-said.ensures at c.in_ok-say_current.ensures.plays in
    fails _ c.from_residual-in_err-drop_idle.result c.from_residual-in_err-drop_idle.ensures.1
    (stops_after rest c.in_ok-take.ensures.plays (stops_after lines.ending said
    (stops_in (λ w. Program.ends (w, c.say_current.new.said)) c.in_err-drop_idle.ensures.plays)))

pub returns-clause-plays : goal.returns-clause-plays
returns-clause-plays g c =
    let said = rw c.in_ok-said.ensures at c.in_ok-say_current.ensures.plays in
    bound rest c.in_ok-take.ensures.plays (bound lines.ending said
    (bound (λ w. Program.ends (w, c.say_current.new.said)) c.in_ok-drop_idle.ensures.plays Leads.stays))
