use Rattle.std.proofs.Common.{Option, subst, sym, ap, ◌∙◌}
use Rattle.std.specs.Prelude.{IfSome}
use Rattle.txn_lang.specs.declared.run.Run.{Run}
use Rattle.rerun_driver.specs.Watches.{Watches, watch_of}
use Rattle.call_programs.specs.Programs.{Program}
use Rattle.call_programs.proofs.Programs.{here, in_bind, bound, stops_in, fails}
use Rattle.client_watches.specs.Keeping.{Keeps}
use Rattle.client_watches.specs.Lines.{made}
use Rattle.client_watches.specs.Watching.{HasRun}
use Rattle.client_watches.proofs.Parts.{wants, none-else}
use Rattle.client_watches.proofs.Kept.{keeps-first}
use Rattle.client_watches.proofs.running.first_run.Goals as goal

pub returns-in_ok-keep-clause-keeps : goal.returns-in_ok-keep-clause-keeps
returns-in_ok-keep-clause-keeps g c =
    subst (Keeps (g.B.Backend.known c.run_body.new.backend)) (sym c.in_ok-keep.ensures.watching)
    (keeps-first (g.B.Backend.known c.run_body.new.backend) c.run_body.new.watching c.in_ok-run.ensures.keeps c.args.new_watch.name c.args.new_watch.body c.in-Some.run'
    (ap (λ (ws : Watches). watch_of ws c.args.new_watch.name) c.in_ok-run.ensures.watches ∙ c.requires.free)
    (subst (λ (o : Option Run). IfSome o (HasRun c.args.new_watch.body c.run_body.new.watching)) c.in-Some.is
    c.in_ok-run.ensures.done))

pub returns-in_err-run-clause-plays : goal.returns-in_err-run-clause-plays
returns-in_err-run-clause-plays g c =
    fails _ c.from_residual.result c.from_residual.ensures.1
    (stops_in (λ found. Program.ends (made c.args.new_watch.name c.args.new_watch.body found)) c.in_err-run.ensures.plays)

pub returns-in_err-keep-clause-plays : goal.returns-in_err-keep-clause-plays
returns-in_err-keep-clause-plays g c =
    fails _ c.from_residual-in_err-keep.result c.from_residual-in_err-keep.ensures.1
    (wants (in_bind (λ found. Program.ends (made c.args.new_watch.name c.args.new_watch.body found)) c.in_ok-run.ensures.plays))

pub returns-in_ok-keep-clause-plays : goal.returns-in_ok-keep-clause-plays
returns-in_ok-keep-clause-plays g c =
    bound (λ found. Program.ends (made c.args.new_watch.name c.args.new_watch.body found)) c.in_ok-run.ensures.plays
    (here (ap (λ o. Program.ends (made c.args.new_watch.name c.args.new_watch.body (o, c.run_body.new.watching, c.run_body.new.said))) c.in-Some.is
    ∙ (λ i. Program.ends (sym c.in_ok-keep.ensures.watching i, sym c.in_ok-keep.ensures.said i))))

pub returns-in_default-clause-plays : goal.returns-in_default-clause-plays
returns-in_default-clause-plays g c =
    bound (λ found. Program.ends (made c.args.new_watch.name c.args.new_watch.body found)) c.in_ok-run.ensures.plays
    (here (ap (λ o. Program.ends (made c.args.new_watch.name c.args.new_watch.body (o, c.run_body.new.watching, c.run_body.new.said)))
    (none-else _ c.in_default.not-Some)))
