use Rattle.std.proofs.Common.{Ok, None, Some, refl, sym, ap, ◌∙◌}
use Rattle.session_text.specs.declared.reply.Reply.TheVariants as reply
use Rattle.session_core.specs.declared.turn.Turn.TheVariants as turn
use Rattle.call_programs.specs.Programs.{Program, Leads}
use Rattle.call_programs.proofs.Programs.{here}
use Rattle.client_watches.specs.GoingOn.{WatchLine}
use Rattle.session_core.specs.Events.{closed, said}
use Rattle.session_core.specs.LinePrograms.{line_over}
use Rattle.session_core.specs.Stopping.{StopsShort}
use Rattle.session_core.specs.Verbs.{says}
use Rattle.session_core.proofs.Performing.{no_fault}
use Rattle.session_core.proofs.Quiet.{watches_owe, wait_owes, looks_owe}
use Rattle.session_core.proofs.Stopping.{does_fail, does_of, does_made, does_quiet, said_does}
use Rattle.session_core.proofs.acting.act.Goals as goal

pub returns-in_err-place-clause-plays : goal.returns-in_err-place-clause-plays
returns-in_err-place-clause-plays g c = does_fail _ c.from_residual.result c.from_residual.ensures.1 (StopsShort.at_once refl (no_fault refl))

pub returns-in-Quiet-clause-plays : goal.returns-in-Quiet-clause-plays
returns-in-Quiet-clause-plays g c =
    here (ap (line_over (g.B.Backend.known c.args.backend.now) c.args.session.now) c.in-Quiet.is)

pub returns-in-Refused-clause-plays : goal.returns-in-Refused-clause-plays
returns-in-Refused-clause-plays g c =
    does_of _ _ _ _ _ c.said.result (ap (line_over (g.B.Backend.known c.args.backend.now) c.args.session.now) c.in-Refused.is)
    (said_does _ _ _ _ _ (Ok (reply.Refused c.in-Refused.reason)) c.said.result c.args.session.now c.said.ensures Leads.stays)

pub returns-in-Begin-clause-plays : goal.returns-in-Begin-clause-plays
returns-in-Begin-clause-plays g c =
    does_of _ _ _ _ _ c.said-in-Begin.result (ap (line_over (g.B.Backend.known c.args.backend.now) c.args.session.now) c.in-Begin.is)
    (said_does _ _ _ _ _ c.begin.result c.said-in-Begin.result c.begin.new.session c.said-in-Begin.ensures c.begin.ensures.plays)

pub returns-in-Try-clause-plays : goal.returns-in-Try-clause-plays
returns-in-Try-clause-plays g c =
    does_of _ _ _ _ _ c.said-in-Try.result (ap (line_over (g.B.Backend.known c.args.backend.now) c.args.session.now) c.in-Try.is)
    (said_does _ _ _ _ _ c.commit.result c.said-in-Try.result c.commit.new.session c.said-in-Try.ensures c.commit.ensures.plays)

pub returns-in-Step-clause-plays : goal.returns-in-Step-clause-plays
returns-in-Step-clause-plays g c =
    does_of _ _ _ _ _ c.said-in-Step.result (ap (line_over (g.B.Backend.known c.args.backend.now) c.args.session.now) c.in-Step.is)
    (said_does _ _ _ _ _ c.step.result c.said-in-Step.result c.step.new.session c.said-in-Step.ensures c.step.ensures.plays)

pub returns-in-Go-clause-plays : goal.returns-in-Go-clause-plays
returns-in-Go-clause-plays g c =
    does_of _ _ _ _ _ c.said-in-Go.result (ap (line_over (g.B.Backend.known c.args.backend.now) c.args.session.now) c.in-Go.is)
    (said_does _ _ _ _ _ c.go.result c.said-in-Go.result c.go.new.session c.said-in-Go.ensures c.go.ensures.plays)

pub returns-in-Drop-clause-plays : goal.returns-in-Drop-clause-plays
returns-in-Drop-clause-plays g c =
    does_of _ _ _ _ _ c.said-in-Drop.result (ap (line_over (g.B.Backend.known c.args.backend.now) c.args.session.now) c.in-Drop.is)
    (said_does _ _ _ _ _ (Ok c.give_up.result) c.said-in-Drop.result c.give_up.new.session c.said-in-Drop.ensures (here c.give_up.ensures.plays))

pub returns-in-Look-clause-plays : goal.returns-in-Look-clause-plays
returns-in-Look-clause-plays g c =
    does_of _ _ _ _ _ c.said-in-Look.result (ap (line_over (g.B.Backend.known c.args.backend.now) c.args.session.now) c.in-Look.is)
    (said_does _ _ _ _ _ c.look.result c.said-in-Look.result c.args.session.now c.said-in-Look.ensures
    (does_made _ _ _ _ _ _ (λ reply. (c.args.session.now, said reply)) c.look.result
    (does_quiet _ _ _ _ _ _ c.look.result (looks_owe None c.in-Look.body) c.look.ensures.plays)))

pub returns-in-At-clause-plays : goal.returns-in-At-clause-plays
returns-in-At-clause-plays g c =
    does_of _ _ _ _ _ c.said-in-At.result (ap (line_over (g.B.Backend.known c.args.backend.now) c.args.session.now) c.in-At.is)
    (said_does _ _ _ _ _ c.look-in-At.result c.said-in-At.result c.args.session.now c.said-in-At.ensures
    (does_made _ _ _ _ _ _ (λ reply. (c.args.session.now, said reply)) c.look-in-At.result
    (does_quiet _ _ _ _ _ _ c.look-in-At.result (looks_owe (Some c.in-At.number) c.in-At.body) c.look-in-At.ensures.plays)))

pub returns-in-Watch-clause-plays : goal.returns-in-Watch-clause-plays
returns-in-Watch-clause-plays g c =
    does_of _ _ _ _ _ c.watch.result (ap (line_over (g.B.Backend.known c.args.backend.now) c.args.session.now) c.in-Watch.is)
    (does_quiet _ _ _ _ _ _ c.watch.result (watches_owe c.args.session.now (WatchLine.watch c.in-Watch.name c.in-Watch.body)) c.watch.ensures.plays)

pub returns-in-Unwatch-clause-plays : goal.returns-in-Unwatch-clause-plays
returns-in-Unwatch-clause-plays g c =
    does_of _ _ _ _ _ c.unwatch.result (ap (line_over (g.B.Backend.known c.args.backend.now) c.args.session.now) c.in-Unwatch.is)
    (does_quiet _ _ _ _ _ _ c.unwatch.result (watches_owe c.args.session.now (WatchLine.unwatch c.in-Unwatch.name)) c.unwatch.ensures.plays)

pub returns-in-Sync-clause-plays : goal.returns-in-Sync-clause-plays
returns-in-Sync-clause-plays g c =
    does_of _ _ _ _ _ c.sync.result (ap (line_over (g.B.Backend.known c.args.backend.now) c.args.session.now) c.in-Sync.is) (does_quiet _ _ _ _ _ _ c.sync.result (watches_owe c.args.session.now WatchLine.sync) c.sync.ensures.plays)

pub returns-in-Wait-clause-plays : goal.returns-in-Wait-clause-plays
returns-in-Wait-clause-plays g c =
    does_of _ _ _ _ _ c.wait.result (ap (line_over (g.B.Backend.known c.args.backend.now) c.args.session.now) c.in-Wait.is)
    (does_quiet _ _ _ _ _ _ c.wait.result (wait_owes (g.B.Backend.known c.args.backend.now).seen c.args.session.now) c.wait.ensures.plays)

pub returns-in-Seen-clause-plays : goal.returns-in-Seen-clause-plays
returns-in-Seen-clause-plays g c =
    does_of _ _ _ _ _ c.said-in-Seen.result (ap (line_over (g.B.Backend.known c.args.backend.now) c.args.session.now) c.in-Seen.is
    ∙ ap (λ n. says c.args.session.now (reply.Seen n)) (sym c.seen.ensures.seen))
    (said_does _ _ _ _ _ (Ok (reply.Seen c.seen.result)) c.said-in-Seen.result c.args.session.now c.said-in-Seen.ensures Leads.stays)

pub returns-in-Quit-clause-plays : goal.returns-in-Quit-clause-plays
returns-in-Quit-clause-plays g c =
    here (ap (line_over (g.B.Backend.known c.args.backend.now) c.args.session.now) c.in-Quit.is
    ∙ ap (λ replies. Program.ends (closed c.args.session.now, turn.Ended replies)) (sym c.placed.ensures))
