use Rattle.std.proofs.Common.{ap, ◌∙◌}
use Rattle.rerun_driver.specs.Watches.{Watches, watch_of}
use Rattle.call_programs.proofs.Programs.{and_then, in_bind, bound, to_same, here, stops_in, stops_behind, fails}
use Rattle.client_watches.specs.Lines as lines
use Rattle.client_watches.proofs.lines.make.Goals as goal

pub returns-in_err-all-clause-plays : goal.returns-in_err-all-clause-plays
returns-in_err-all-clause-plays g c =
    fails _ c.from_residual.result c.from_residual.ensures.1 (stops_in (lines.then_first c.args.new_watch.name c.args.new_watch.body) c.in_err-all.ensures.plays)

pub returns-then-not-all-clause-plays : goal.returns-then-not-all-clause-plays
returns-then-not-all-clause-plays g c =
    bound (lines.then_first c.args.new_watch.name c.args.new_watch.body) c.in_ok-all.ensures.plays
    (here (ap (λ b. lines.then_first c.args.new_watch.name c.args.new_watch.body (b, c.catch_up.new.watching, c.catch_up.new.said)) c.if-not-all.true))

pub returns-in_err-drop_idle-clause-plays : goal.returns-in_err-drop_idle-clause-plays
returns-in_err-drop_idle-clause-plays g c =
    let then_ = lines.then_first c.args.new_watch.name c.args.new_watch.body in
    let all = ap (λ b. then_ (b, c.catch_up.new.watching, c.catch_up.new.said)) c.if-not-all.false in
    fails _ c.from_residual-in_err-drop_idle.result c.from_residual-in_err-drop_idle.ensures.1
    (stops_behind (to_same all (in_bind then_ c.in_ok-all.ensures.plays))
    (stops_in (lines.first_run c.args.new_watch.name c.args.new_watch.body c.catch_up.new.said) c.in_err-drop_idle.ensures.plays))

pub returns-in_err-first_run-clause-plays : goal.returns-in_err-first_run-clause-plays
returns-in_err-first_run-clause-plays g c =
    let then_ = lines.then_first c.args.new_watch.name c.args.new_watch.body in
    let all = ap (λ b. then_ (b, c.catch_up.new.watching, c.catch_up.new.said)) c.if-not-all.false in
    fails _ c.from_residual-in_err-first_run.result c.from_residual-in_err-first_run.ensures.1
    (stops_behind (and_then (to_same all (in_bind then_ c.in_ok-all.ensures.plays))
    (in_bind (lines.first_run c.args.new_watch.name c.args.new_watch.body c.catch_up.new.said) c.in_ok-drop_idle.ensures.plays)) c.in_err-first_run.ensures.plays)

pub returns-clause-plays : goal.returns-clause-plays
returns-clause-plays g c =
    let then_ = lines.then_first c.args.new_watch.name c.args.new_watch.body in
    let all = ap (λ b. then_ (b, c.catch_up.new.watching, c.catch_up.new.said)) c.if-not-all.false in
    and_then (to_same all (in_bind then_ c.in_ok-all.ensures.plays))
    (bound (lines.first_run c.args.new_watch.name c.args.new_watch.body c.catch_up.new.said) c.in_ok-drop_idle.ensures.plays c.in_ok-first_run.ensures.plays)

pub first_run-requires-clause-free : goal.first_run-requires-clause-free
first_run-requires-clause-free g c =
    ap (λ (ws : Watches). watch_of ws c.args.new_watch.name) c.in_ok-drop_idle.ensures.watches ∙ c.in_ok-all.ensures.free c.args.new_watch.name c.requires.free
