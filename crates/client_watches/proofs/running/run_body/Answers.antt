use Rattle.std.proofs.Common.{◌≡◌, ℕ, suc, ◌+◌, ◌-◌, Option, None, refl, arith, subst, sym, ap, ◌∙◌}
use Rattle.session_text.specs.declared.reply.Reply.{Reply}
use Rattle.txn_lang.specs.declared.run.Run.{Run}
use Rattle.txn_lang.specs.Execution.{need, done}
use Rattle.txn_lang.proofs.Observed.{runs_ask_short}
use Rattle.txn_lang.proofs.Few.{reads_are_few}
use Rattle.txn_eval.specs.Running.{ran_of}
use Rattle.client_cache.specs.Cached.{held, filled}
use Rattle.rerun_driver.specs.BegunRuns.{IsBegun}
use Rattle.rerun_driver.proofs.CacheRuns.{begun-more}
use Rattle.client_watches.specs.declared.watching.Watching.{Watching}
use Rattle.call_programs.specs.Programs.{Program}
use Rattle.call_programs.proofs.Programs.{and_then, in_bind, bound, to_same, here, stops_in, stops_behind, fails}
use Rattle.client_watches.specs.Lines.{rounds, run_body, or_late}
use Rattle.client_watches.specs.Keeping.{Keeps}
use Rattle.client_watches.proofs.Kept.{keeps-on, keeps-value}
use Rattle.client_watches.proofs.Bounds.{filled-next}
use Rattle.txn_lang.specs.Few.{AreReadInTurn}
use Rattle.client_watches.proofs.Parts.{wants, no_round_yet, run_round, none-else, IsFetched, is_fetched}
use Rattle.client_watches.proofs.running.run_body.Goals as goal

pub loop-init : goal.loop-init
loop-init g c = record {
  played = here (ap (λ (n : ℕ). run_body n c.args.body.now c.args.said.now c.args.watching.now) no_round_yet);
  turn = tt;
  begun = c.new-begun.ensures c.args.body.now.body c.args.watching.now.cache;
  watches = refl;
  keeps = c.requires;
  home = refl;
}

pub returns-in_err-run-clause-plays : goal.returns-in_err-run-clause-plays
returns-in_err-run-clause-plays g c = fails _ c.from_residual.result c.from_residual.ensures.1 (wants c.loop.invariant.played)

pub fetch-requires-clause-short : goal.fetch-requires-clause-short
fetch-requires-clause-short g c = runs_ask_short.needed c.args.body.now.body (held c.loop.watching.cache) c.in-Need.address
    (sym c.in_ok-run.ensures.ran ∙ ap ran_of c.in-Need.is)

pub returns-in_err-late-in-Need-clause-plays : goal.returns-in_err-late-in-Need-clause-plays
returns-in_err-late-in-Need-clause-plays g c =
    let round = run_round c.loop.counter c.args.body.now c.loop.said c.loop.watching (need c.in-Need.address) c.loop-test.true
    (sym c.in_ok-run.ensures.ran ∙ ap ran_of c.in-Need.is) in
    fails _ c.from_residual-in_err-late-in-Need.result c.from_residual-in_err-late-in-Need.ensures.1
    (stops_behind (to_same round c.loop.invariant.played)
    (stops_in (or_late (run_body (rounds - (c.loop.counter + 1)) c.args.body.now c.loop.said) None c.loop.said) c.in_err-late-in-Need.ensures.plays))

pub returns-in_err-push-in-Need-clause-plays : goal.returns-in_err-push-in-Need-clause-plays
returns-in_err-push-in-Need-clause-plays g c =
    let round = run_round c.loop.counter c.args.body.now c.loop.said c.loop.watching (need c.in-Need.address) c.loop-test.true
    (sym c.in_ok-run.ensures.ran ∙ ap ran_of c.in-Need.is) in
    fails _ c.from_residual-in_err-push-in-Need.result c.from_residual-in_err-push-in-Need.ensures.1
    (wants (and_then (to_same round c.loop.invariant.played)
    (in_bind (or_late (run_body (rounds - (c.loop.counter + 1)) c.args.body.now c.loop.said) None c.loop.said) c.in_ok-late-in-Need.ensures.plays)))

pub returns-in-Done-clause-plays : goal.returns-in-Done-clause-plays
returns-in-Done-clause-plays g c =
    to_same (run_round c.loop.counter c.args.body.now c.loop.said c.loop.watching (done c.in-Done.run') c.loop-test.true
    (sym c.in_ok-run.ensures.ran ∙ ap ran_of c.in-Done.is)) c.loop.invariant.played

pub returns-in-Some-clause-plays : goal.returns-in-Some-clause-plays
returns-in-Some-clause-plays g c =
    let round = run_round c.loop.counter c.args.body.now c.loop.said c.loop.watching (need c.in-Need.address) c.loop-test.true
    (sym c.in_ok-run.ensures.ran ∙ ap ran_of c.in-Need.is) in
    let none : Option Run = None in
    let more = or_late (run_body (rounds - (c.loop.counter + 1)) c.args.body.now c.loop.said) none c.loop.said in
    and_then (to_same round c.loop.invariant.played) (bound more c.in_ok-late-in-Need.ensures.plays
    (here (ap (λ o. more (o, c.fetch.new.watching)) c.in-Some.is
    ∙ ap (λ said. Program.ends (none, c.fetch.new.watching, said)) (sym c.in_ok-push-in-Need.ensures.ok))))

pub returns-in-Some-clause-keeps : goal.returns-in-Some-clause-keeps
returns-in-Some-clause-keeps g c =
    let late = subst (λ (o : Option Reply). IsFetched c.loop.watching c.in-Need.address o c.fetch.new.watching) c.in-Some.is
    (is_fetched c.in_ok-late-in-Need.ensures.plays) in
    subst (Keeps (g.B.Backend.known c.fetch.new.backend)) (sym late)
    (keeps-on (g.B.Backend.known c.loop.backend) (g.B.Backend.known c.fetch.new.backend) c.loop.watching c.fetch.ensures.seen c.loop.invariant.keeps)

pub returns-in-Some-clause-watches : goal.returns-in-Some-clause-watches
returns-in-Some-clause-watches g c =
    let late = subst (λ (o : Option Reply). IsFetched c.loop.watching c.in-Need.address o c.fetch.new.watching) c.in-Some.is
    (is_fetched c.in_ok-late-in-Need.ensures.plays) in
    ap (λ (w : Watching). w.watches) late ∙ c.loop.invariant.watches

pub loop-preserved : goal.loop-preserved
loop-preserved g c =
    let none = none-else _ c.in_default.not-Some in
    let fetched : IsFetched c.loop.watching c.in-Need.address None c.fetch.new.watching =
    subst (λ (o : Option Reply). IsFetched c.loop.watching c.in-Need.address o c.fetch.new.watching) none
    (is_fetched c.in_ok-late-in-Need.ensures.plays) in
    let next = filled-next c.args.body.now.body c.loop.watching.cache c.in-Need.address fetched.0 (sym c.in_ok-run.ensures.ran ∙ ap ran_of c.in-Need.is) in
    let up : suc c.loop.counter ≡ c.loop.counter + 1 = omega arith in
    let round = run_round c.loop.counter c.args.body.now c.loop.said c.loop.watching (need c.in-Need.address) c.loop-test.true
    (sym c.in_ok-run.ensures.ran ∙ ap ran_of c.in-Need.is) in
    let more = or_late (run_body (rounds - (c.loop.counter + 1)) c.args.body.now c.loop.said) None c.loop.said in
    record {
      played = and_then (to_same round c.loop.invariant.played)
          (bound more c.in_ok-late-in-Need.ensures.plays
          (here (ap (λ o. more (o, c.fetch.new.watching)) none)));
      turn = subst (λ (w : Watching). AreReadInTurn c.args.body.now.body (c.loop.counter + 1) (held w.cache)) (sym fetched.1)
          (subst (λ (n : ℕ). AreReadInTurn c.args.body.now.body n (held (filled c.loop.watching.cache c.in-Need.address fetched.0))) up (
            held c.loop.watching.cache,
            c.loop.invariant.turn,
            next,
          ));
      begun = subst (λ (w : Watching). IsBegun c.args.body.now.body w.cache c.run_from.new.begun) (sym fetched.1)
          (begun-more c.args.body.now.body c.loop.watching.cache (filled c.loop.watching.cache c.in-Need.address fetched.0) c.run_from.new.begun next.others
          c.in_ok-run.ensures.begun);
      watches = ap (λ (w : Watching). w.watches) fetched.1 ∙ c.loop.invariant.watches;
      keeps = subst (Keeps (g.B.Backend.known c.fetch.new.backend)) (sym fetched.1)
          (keeps-value (g.B.Backend.known c.loop.backend) (g.B.Backend.known c.fetch.new.backend) c.loop.watching c.fetch.ensures.seen
          c.loop.invariant.keeps c.in-Need.address fetched.0
          (runs_ask_short.needed c.args.body.now.body (held c.loop.watching.cache) c.in-Need.address (sym c.in_ok-run.ensures.ran ∙ ap ran_of c.in-Need.is)));
      home = c.fetch.ensures.home ∙ c.loop.invariant.home;
    }

pub unreachable-requires : goal.unreachable-requires
unreachable-requires g c =
    let few = reads_are_few c.args.body.now.body c.loop.counter (held c.loop.watching.cache) c.loop.invariant.turn in omega arith
