use Rattle.std.proofs.Common.{◌≡◌, ℕ, ◌+◌, ◌-◌, suc, false, Option, Some, None, refl, arith, subst, sym, ap, ◌∙◌}
use Rattle.session_text.specs.declared.reply.Reply.{Reply}
use Rattle.txn_lang.proofs.Observed.{runs_ask_short}
use Rattle.client_cache.specs.Cached.{held, filled}
use Rattle.rerun_driver.specs.declared.rerun.Rerun.TheVariants as rerun
use Rattle.rerun_driver.specs.Watches.{Watches, watch_of, first_stale}
use Rattle.call_programs.specs.Programs.{Program}
use Rattle.call_programs.proofs.Programs.{and_then, in_bind, bound, to_same, here, stops_in, stops_behind, fails}
use Rattle.client_watches.specs.declared.watching.Watching.{Watching}
use Rattle.client_watches.specs.Keeping.{Keeps}
use Rattle.client_watches.specs.Watching.{stale_count}
use Rattle.client_watches.specs.Lines.{rounds, rerun_one, or_late}
use Rattle.client_watches.proofs.Names.{none-report}
use Rattle.client_watches.proofs.Stale.{it-needs, is-there, one-fewer}
use Rattle.client_watches.proofs.Bounds.{HasRead, none-read, reads-few, rerun-reads-more}
use Rattle.client_watches.proofs.Kept.{keeps-on, keeps-rerun, keeps-value}
use Rattle.client_watches.proofs.Parts.{wants, no_round_yet, rerun_round, none-else, IsFetched, is_fetched}
use Rattle.client_watches.proofs.catching.rerun_one.Goals as goal

pub loop-init : goal.loop-init
loop-init g c = record {
  played = here (ap (λ (n : ℕ). rerun_one n c.args.said.now c.args.watching.now) no_round_yet);
  read = none-read (first_stale c.args.watching.now.watches) (held c.args.watching.now.cache);
  watches = refl;
  keeps = c.requires;
  home = refl;
}

pub returns-in_err-run_next-clause-plays : goal.returns-in_err-run_next-clause-plays
returns-in_err-run_next-clause-plays g c = fails _ c.from_residual.result c.from_residual.ensures.1 (wants c.loop.invariant.played)

pub report-requires : goal.report-requires
report-requires g c = record {
  there = is-there (held c.loop.watching.cache) c.loop.watching.watches c.in-Ran.name c.in-Ran.run' c.loop.invariant.keeps.names
      (sym c.in_ok-run_next.ensures ∙ c.in-Ran.is);
}

pub returns-in_err-report-in-Ran-clause-plays : goal.returns-in_err-report-in-Ran-clause-plays
returns-in_err-report-in-Ran-clause-plays g c =
    fails _ c.from_residual-in_err-report-in-Ran.result c.from_residual-in_err-report-in-Ran.ensures.1 (wants c.loop.invariant.played)

pub fetch-requires-clause-short : goal.fetch-requires-clause-short
fetch-requires-clause-short g c =
    let needs = it-needs (held c.loop.watching.cache) c.loop.watching.watches c.in-Need.address (sym c.in_ok-run_next.ensures ∙ c.in-Need.is) in
    runs_ask_short.needed needs.entry.1.body.body (held c.loop.watching.cache) c.in-Need.address needs.needed

pub returns-in_err-late-in-Need-clause-plays : goal.returns-in_err-late-in-Need-clause-plays
returns-in_err-late-in-Need-clause-plays g c =
    let round = rerun_round c.loop.counter c.loop.said c.loop.watching (rerun.Need c.in-Need.address) c.loop-test.true
    (sym c.in_ok-run_next.ensures ∙ c.in-Need.is) in
    fails _ c.from_residual-in_err-late-in-Need.result c.from_residual-in_err-late-in-Need.ensures.1
    (stops_behind (to_same round c.loop.invariant.played)
    (stops_in (or_late (rerun_one (rounds - (c.loop.counter + 1)) c.loop.said) (Some false) c.loop.said) c.in_err-late-in-Need.ensures.plays))

pub returns-in_err-push-in-Need-clause-plays : goal.returns-in_err-push-in-Need-clause-plays
returns-in_err-push-in-Need-clause-plays g c =
    let round = rerun_round c.loop.counter c.loop.said c.loop.watching (rerun.Need c.in-Need.address) c.loop-test.true
    (sym c.in_ok-run_next.ensures ∙ c.in-Need.is) in
    fails _ c.from_residual-in_err-push-in-Need.result c.from_residual-in_err-push-in-Need.ensures.1
    (wants (and_then (to_same round c.loop.invariant.played)
    (in_bind (or_late (rerun_one (rounds - (c.loop.counter + 1)) c.loop.said) (Some false) c.loop.said) c.in_ok-late-in-Need.ensures.plays)))

pub returns-in-NoneLeft-clause-plays : goal.returns-in-NoneLeft-clause-plays
returns-in-NoneLeft-clause-plays g c =
    to_same (rerun_round c.loop.counter c.loop.said c.loop.watching rerun.NoneLeft c.loop-test.true (sym c.in_ok-run_next.ensures ∙ c.in-NoneLeft.is))
    c.loop.invariant.played

pub returns-in-NoneLeft-clause-free : goal.returns-in-NoneLeft-clause-free
returns-in-NoneLeft-clause-free g c = λ name none. ap (λ (ws : Watches). watch_of ws name) c.loop.invariant.watches ∙ none

pub returns-in-Ran-clause-plays : goal.returns-in-Ran-clause-plays
returns-in-Ran-clause-plays g c =
    to_same (rerun_round c.loop.counter c.loop.said c.loop.watching (rerun.Ran c.in-Ran.name c.in-Ran.run') c.loop-test.true
    (sym c.in_ok-run_next.ensures ∙ c.in-Ran.is)
    ∙ (λ i. Program.ends (None, sym c.in_ok-report-in-Ran.ensures.watching i, sym c.in_ok-report-in-Ran.ensures.said i)))
    c.loop.invariant.played

pub returns-in-Ran-clause-keeps : goal.returns-in-Ran-clause-keeps
returns-in-Ran-clause-keeps g c =
    subst (Keeps (g.B.Backend.known c.loop.backend)) (sym c.in_ok-report-in-Ran.ensures.watching)
    (keeps-rerun (g.B.Backend.known c.loop.backend) c.loop.watching c.loop.invariant.keeps c.in-Ran.name c.in-Ran.run'
    (sym c.in_ok-run_next.ensures ∙ c.in-Ran.is))

pub returns-in-Ran-clause-free : goal.returns-in-Ran-clause-free
returns-in-Ran-clause-free g c = λ name none.
    ap (λ (w : Watching). watch_of w.watches name) c.in_ok-report-in-Ran.ensures.watching
    ∙ none-report name c.loop.watching.watches c.in-Ran.name c.loop.watching.cache.at c.in-Ran.run'
    (ap (λ (ws : Watches). watch_of ws name) c.loop.invariant.watches ∙ none)

pub returns-in-Ran-clause-fewer : goal.returns-in-Ran-clause-fewer
returns-in-Ran-clause-fewer g c =
    ap stale_count (sym c.loop.invariant.watches)
    ∙ one-fewer (held c.loop.watching.cache) c.loop.watching.watches c.in-Ran.name c.loop.watching.cache.at c.in-Ran.run' c.loop.invariant.keeps.names
    (sym c.in_ok-run_next.ensures ∙ c.in-Ran.is)
    ∙ ap (λ (w : Watching). suc (stale_count w.watches)) (sym c.in_ok-report-in-Ran.ensures.watching)

pub returns-in-Some-clause-plays : goal.returns-in-Some-clause-plays
returns-in-Some-clause-plays g c =
    let round = rerun_round c.loop.counter c.loop.said c.loop.watching (rerun.Need c.in-Need.address) c.loop-test.true
    (sym c.in_ok-run_next.ensures ∙ c.in-Need.is) in
    let more = or_late (rerun_one (rounds - (c.loop.counter + 1)) c.loop.said) (Some false) c.loop.said in
    and_then (to_same round c.loop.invariant.played) (bound more c.in_ok-late-in-Need.ensures.plays
    (here (ap (λ o. more (o, c.fetch.new.watching)) c.in-Some.is
    ∙ ap (λ said. Program.ends (Some false, c.fetch.new.watching, said)) (sym c.in_ok-push-in-Need.ensures.ok))))

pub returns-in-Some-clause-keeps : goal.returns-in-Some-clause-keeps
returns-in-Some-clause-keeps g c =
    let late = subst (λ (o : Option Reply). IsFetched c.loop.watching c.in-Need.address o c.fetch.new.watching) c.in-Some.is
    (is_fetched c.in_ok-late-in-Need.ensures.plays) in
    subst (Keeps (g.B.Backend.known c.fetch.new.backend)) (sym late)
    (keeps-on (g.B.Backend.known c.loop.backend) (g.B.Backend.known c.fetch.new.backend) c.loop.watching c.fetch.ensures.seen c.loop.invariant.keeps)

pub returns-in-Some-clause-free : goal.returns-in-Some-clause-free
returns-in-Some-clause-free g c = λ name none.
    let late = subst (λ (o : Option Reply). IsFetched c.loop.watching c.in-Need.address o c.fetch.new.watching) c.in-Some.is
    (is_fetched c.in_ok-late-in-Need.ensures.plays) in
    ap (λ (w : Watching). watch_of w.watches name) late ∙ ap (λ (ws : Watches). watch_of ws name) c.loop.invariant.watches ∙ none

pub loop-preserved : goal.loop-preserved
loop-preserved g c =
    let e = sym c.in_ok-run_next.ensures ∙ c.in-Need.is in
    let needs = it-needs (held c.loop.watching.cache) c.loop.watching.watches c.in-Need.address e in
    let none = none-else _ c.in_default.not-Some in
    let fetched : IsFetched c.loop.watching c.in-Need.address None c.fetch.new.watching =
    subst (λ (o : Option Reply). IsFetched c.loop.watching c.in-Need.address o c.fetch.new.watching) none
    (is_fetched c.in_ok-late-in-Need.ensures.plays) in
    let up : suc c.loop.counter ≡ c.loop.counter + 1 = omega arith in
    let round = rerun_round c.loop.counter c.loop.said c.loop.watching (rerun.Need c.in-Need.address) c.loop-test.true e in
    let more = or_late (rerun_one (rounds - (c.loop.counter + 1)) c.loop.said) (Some false) c.loop.said in
    record {
      played = and_then (to_same round c.loop.invariant.played)
          (bound more c.in_ok-late-in-Need.ensures.plays
          (here (ap (λ o. more (o, c.fetch.new.watching)) none)));
      read = subst (λ (w : Watching). HasRead (first_stale w.watches) (c.loop.counter + 1) (held w.cache)) (sym fetched.1)
          (subst (λ (n : ℕ). HasRead (first_stale c.loop.watching.watches) n (held (filled c.loop.watching.cache c.in-Need.address fetched.0))) up
          (rerun-reads-more c.loop.watching c.in-Need.address fetched.0 c.loop.counter e c.loop.invariant.read));
      watches = ap (λ (w : Watching). w.watches) fetched.1 ∙ c.loop.invariant.watches;
      keeps = subst (Keeps (g.B.Backend.known c.fetch.new.backend)) (sym fetched.1)
          (keeps-value (g.B.Backend.known c.loop.backend) (g.B.Backend.known c.fetch.new.backend) c.loop.watching c.fetch.ensures.seen
          c.loop.invariant.keeps c.in-Need.address fetched.0
          (runs_ask_short.needed needs.entry.1.body.body (held c.loop.watching.cache) c.in-Need.address needs.needed));
      home = c.fetch.ensures.home ∙ c.loop.invariant.home;
    }

pub unreachable-requires : goal.unreachable-requires
unreachable-requires g c =
    let few = reads-few (first_stale c.loop.watching.watches) c.loop.counter (held c.loop.watching.cache) c.loop.invariant.read in omega arith
