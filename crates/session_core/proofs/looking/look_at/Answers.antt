use Rattle.std.proofs.Common.{ℕ, ◌+◌, ◌-◌, [], Option, Ok, refl, subst, sym, ap, ◌∙◌, arith}
use Rattle.session_text.specs.declared.reply.Reply.{Reply}
use Rattle.txn_eval.specs.Running.{ran_of, values_of}
use Rattle.docc_prepare.specs.Calls.{value_answered}
use Rattle.txn_lang.specs.Execution.{need, done}
use Rattle.txn_lang.proofs.Observed.{runs_ask_short}
use Rattle.call_programs.specs.Programs.{Stops}
use Rattle.call_programs.proofs.Programs.{here, to_same, and_then, one_call, stops_behind, fails}
use Rattle.session_core.specs.code.Turning.{Valued}
use Rattle.session_core.specs.Verbs.{events, look_in}
use Rattle.session_core.proofs.Performing.{no_fault, none_over, look_round, none_else, valued_more, valued_late, valued_short, valued_pauses}
use Rattle.session_core.proofs.Safe.{looks_enough}
use Rattle.session_core.proofs.looking.look_at.Goals as goal

pub loop-init : goal.loop-init
loop-init g c = record {
  plays = here (ap (λ (n : ℕ). look_in n c.args.number c.args.body.now []) none_over
      ∙ ap (look_in (events - 0) c.args.number c.args.body.now) (sym c.new-snaps.ensures));
  seen = c.requires.seen;
  paused = c.begun-pause.ensures c.args.body.now.body.stmts c.new-snaps.result;
  home = refl;
}

pub read_at-answer-requires-clause-short : goal.read_at-answer-requires-clause-short
read_at-answer-requires-clause-short g c = runs_ask_short.needed c.args.body.now.body (values_of c.loop.snaps) c.in-Need.address
    (sym c.in_ok-run.ensures.ran ∙ ap ran_of c.in-Need.is)

pub returns-in_err-run-clause-plays : goal.returns-in_err-run-clause-plays
returns-in_err-run-clause-plays g c =
    fails _ c.from_residual.result c.from_residual.ensures.1 (Stops.wants c.loop.invariant.plays (no_fault refl))

pub returns-in-Done-clause-plays : goal.returns-in-Done-clause-plays
returns-in-Done-clause-plays g c =
    to_same (look_round c.loop.counter c.args.number c.args.body.now c.loop.snaps (done c.in-Done.run') c.loop-test.true
    (sym c.in_ok-run.ensures.ran ∙ ap ran_of c.in-Done.is)) c.loop.invariant.plays

pub returns-in_err-reply-in-Need-clause-plays : goal.returns-in_err-reply-in-Need-clause-plays
returns-in_err-reply-in-Need-clause-plays g c =
    let round = look_round c.loop.counter c.args.number c.args.body.now c.loop.snaps (need c.in-Need.address) c.loop-test.true
    (sym c.in_ok-run.ensures.ran ∙ ap ran_of c.in-Need.is) in
    fails _ c.from_residual-in_err-reply-in-Need.result c.from_residual-in_err-reply-in-Need.ensures.1
    (stops_behind (to_same round c.loop.invariant.plays)
    (valued_short c.args.number c.loop.snaps c.valued.new.snaps c.in-Need.address (value_answered c.read_at-answer.result) _
    c.read_at-answer.ensures.goes c.in_err-reply-in-Need.ensures))

pub returns-in-Some-clause-plays : goal.returns-in-Some-clause-plays
returns-in-Some-clause-plays g c =
    let round = look_round c.loop.counter c.args.number c.args.body.now c.loop.snaps (need c.in-Need.address) c.loop-test.true
    (sym c.in_ok-run.ensures.ran ∙ ap ran_of c.in-Need.is) in
    let late = valued_late (look_in (events - (c.loop.counter + 1)) c.args.number c.args.body.now) c.args.number c.loop.snaps c.in-Need.address
    (value_answered c.read_at-answer.result) c.valued.new.snaps c.in-Some.reply
    (subst (λ (o : Option Reply). Valued c.loop.snaps c.in-Need.address c.args.number (value_answered c.read_at-answer.result)
    (Ok o) c.valued.new.snaps) c.in-Some.is c.in_ok-reply-in-Need.ensures) in
    and_then (to_same round c.loop.invariant.plays)
    (one_call (value_answered c.read_at-answer.result) c.read_at-answer.ensures.goes late.succeeds late.is)

pub loop-preserved : goal.loop-preserved
loop-preserved g c =
    let round = look_round c.loop.counter c.args.number c.args.body.now c.loop.snaps (need c.in-Need.address) c.loop-test.true
    (sym c.in_ok-run.ensures.ran ∙ ap ran_of c.in-Need.is) in
    let more = valued_more (look_in (events - (c.loop.counter + 1)) c.args.number c.args.body.now) c.args.number c.loop.snaps c.in-Need.address
    (value_answered c.read_at-answer.result) c.valued.new.snaps
    (subst (λ (o : Option Reply). Valued c.loop.snaps c.in-Need.address c.args.number (value_answered c.read_at-answer.result)
    (Ok o) c.valued.new.snaps) (none_else _ c.in_default.not-Some) c.in_ok-reply-in-Need.ensures) in record {
      plays = and_then (to_same round c.loop.invariant.plays)
          (one_call (value_answered c.read_at-answer.result) c.read_at-answer.ensures.goes more.succeeds more.is);
      seen = let up = c.read_at-answer.ensures.goes.answered.goes_on.seen in let s = c.loop.invariant.seen in omega arith;
      paused = valued_pauses c.args.body.now c.args.number c.loop.snaps c.in-Need.address (value_answered c.read_at-answer.result) c.valued.new.snaps
          c.go_on.new.pause (sym c.in_ok-run.ensures.ran ∙ ap ran_of c.in-Need.is)
          (subst (λ (o : Option Reply). Valued c.loop.snaps c.in-Need.address c.args.number (value_answered c.read_at-answer.result)
          (Ok o) c.valued.new.snaps) (none_else _ c.in_default.not-Some) c.in_ok-reply-in-Need.ensures) c.in_ok-run.ensures.paused;
      home = c.read_at-answer.ensures.home ∙ c.loop.invariant.home;
    }

pub unreachable-requires : goal.unreachable-requires
unreachable-requires g c = looks_enough c.args.session.now c.args.body.now c.loop.snaps c.loop.counter (omega arith) c.requires.attends c.requires.seen c.loop.invariant.plays
