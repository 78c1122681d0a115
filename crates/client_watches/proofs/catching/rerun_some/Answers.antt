use Rattle.std.proofs.Common.{ℕ, refl, ap, ◌∙◌, arith}
use Rattle.call_programs.specs.Programs.{Leads}
use Rattle.call_programs.proofs.Programs.{and_then, bound, here, stops_in, stops_behind}
use Rattle.client_watches.specs.Watching.{IsOneFewer, stale_count}
use Rattle.client_watches.specs.Lines.{reruns, or_more}
use Rattle.client_watches.proofs.Parts.{goes_fail, none-else}
use Rattle.client_watches.proofs.catching.rerun_some.Goals as goal

pub loop-init : goal.loop-init
loop-init g c = record {
  played = Leads.stays;
  fewer = omega arith;
  keeps = c.requires.keeps;
  free = λ name none. none;
  home = refl;
}

pub returns-in_err-all-clause-goes : goal.returns-in_err-all-clause-goes
returns-in_err-all-clause-goes g c =
    goes_fail _ _ c.from_residual.result c.from_residual.ensures.1
    (stops_behind c.loop.invariant.played (stops_in (or_more (reruns (stale_count c.loop.watching.watches))) c.in_err-all.ensures.plays))

pub returns-in-Some-clause-goes : goal.returns-in-Some-clause-goes
returns-in-Some-clause-goes g c =
    let more = or_more (reruns (stale_count c.loop.watching.watches)) in
    and_then c.loop.invariant.played
    (bound more c.in_ok-all.ensures.plays (here (ap (λ o. more (o, c.rerun_one.new.watching, c.rerun_one.new.said)) c.in-Some.is)))

pub loop-preserved : goal.loop-preserved
loop-preserved g c =
    let more = or_more (reruns (stale_count c.loop.watching.watches)) in
    let none = none-else _ c.in_default.not-Some in
    let one : IsOneFewer c.loop.watching c.rerun_one.new.watching = rw none at c.in_ok-all.ensures.fewer in
    record {
      played = and_then c.loop.invariant.played (bound more c.in_ok-all.ensures.plays
          (here (ap (λ o. more (o, c.rerun_one.new.watching, c.rerun_one.new.said)) none
          ∙ ap (λ (n : ℕ). reruns n c.rerun_one.new.watching c.rerun_one.new.said) one)));
      fewer = let before = c.loop.invariant.fewer in omega arith;
      keeps = c.in_ok-all.ensures.keeps;
      free = λ name none. c.in_ok-all.ensures.free name (c.loop.invariant.free name none);
      home = c.rerun_one.ensures.home ∙ c.loop.invariant.home;
    }

-- all rounds were made, and each has left one less
pub returns : goal.returns
returns g c = record {
  goes = c.loop.invariant.played;
  keeps = c.loop.invariant.keeps;
  free = c.loop.invariant.free;
  fewer = let h = c.loop.invariant.fewer in let end = c.loop-test.false in let some = c.requires.some in omega arith;
  home = c.loop.invariant.home;
}
