use Rattle.std.proofs.Common.{ℕ, ◌+◌, ◌-◌, Option, Ok, refl, subst, ap, ◌∙◌, arith}
use Rattle.call_programs.proofs.Programs.{here, to_same, and_then, bound}
use Rattle.call_programs.specs.Programs.{Leads}
use Rattle.session_core.specs.declared.approach.Approach.{Approach}
use Rattle.session_core.specs.Remembering.{Remembers}
use Rattle.session_core.specs.Verbs.{events, or_on, drive_in}
use Rattle.session_core.specs.code.Approaching.{Nears}
use Rattle.session_core.proofs.Performing.{none_over, drive_round, drive_asks}
use Rattle.session_core.proofs.Safe.{event_goes_on, drives_enough}
use Rattle.session_core.proofs.Approaching.{approaches_fail, comes_near}
use Rattle.session_core.proofs.Stopping.{short_in, short_behind}
use Rattle.session_core.proofs.driving.until_append.Goals as goal

pub loop-init : goal.loop-init
loop-init g c = record {
  plays = here (ap (λ (n : ℕ). drive_in n c.args.session.now c.args.attempt.now) none_over);
  attends = c.requires.attends;
  holds = c.requires.holds;
  known = record { ran = tt; pause = c.begun.ensures c.args.attempt.now.body.body.stmts c.args.attempt.now.snaps };
  home = refl;
}

pub returns-in_err-near-clause-approaches : goal.returns-in_err-near-clause-approaches
returns-in_err-near-clause-approaches g c =
    approaches_fail c.args.session.now _ _ c.from_residual.result c.from_residual.ensures.1
    (short_behind (to_same (drive_round c.loop.counter c.args.session.now c.loop.attempt c.loop-test.true) c.loop.invariant.plays)
    (drive_asks (c.loop.counter + 1) c.args.session.now c.loop.attempt)
    (short_in (or_on (drive_in (events - (c.loop.counter + 1)) c.args.session.now)) c.in_err-near.ensures.nears))

pub returns-in-Some-clause-approaches : goal.returns-in-Some-clause-approaches
returns-in-Some-clause-approaches g c =
    comes_near c.args.session.now c.loop.counter c.event_on.new.backend c.event_on.new.attempt c.in-Some.end c.loop-test.true c.requires.attends c.requires.holds c.loop.invariant.plays
    c.loop.invariant.attends c.loop.invariant.holds
    (subst (λ (o : Option Approach). Nears g.B.Backend.known g.B.Backend.goes c.args.session.now c.loop.backend c.loop.attempt (Ok o)
    c.event_on.new.backend c.event_on.new.attempt) c.in-Some.is c.in_ok-near.ensures.nears)

pub loop-preserved : goal.loop-preserved
loop-preserved g c =
    let led = subst (λ (o : Option Approach). Nears g.B.Backend.known g.B.Backend.goes c.args.session.now c.loop.backend c.loop.attempt (Ok o)
    c.event_on.new.backend c.event_on.new.attempt) c.in_default.is c.in_ok-near.ensures.nears in
    let on = event_goes_on c.args.session.now c.loop.invariant.attends c.loop.invariant.holds refl led in
    let round = drive_round c.loop.counter c.args.session.now c.loop.attempt c.loop-test.true in
    let more = or_on (drive_in (events - (c.loop.counter + 1)) c.args.session.now) in
    record {
      plays = and_then (to_same round c.loop.invariant.plays) (bound more led Leads.stays);
      attends = on.0;
      holds = on.1;
      known = subst (λ (o : Option Approach). Remembers c.event_on.new.attempt o c.event_on.new.known) c.in_default.is c.in_ok-near.ensures.known;
      home = c.event_on.ensures.home ∙ c.loop.invariant.home;
    }

pub unreachable-requires : goal.unreachable-requires
unreachable-requires g c = drives_enough c.args.session.now c.loop.attempt c.loop.counter (omega arith) c.requires.attends c.requires.holds c.loop.invariant.plays
