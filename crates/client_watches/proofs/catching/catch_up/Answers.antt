use Rattle.std.proofs.Common.{refl, ap, ◌∙◌}
use Rattle.call_programs.specs.Programs.{Leads}
use Rattle.call_programs.proofs.Programs.{and_then, to_same, stops_behind, fails}
use Rattle.client_watches.specs.Lines.{catch_up, or_more}
use Rattle.client_watches.proofs.Parts.{wants}
use Rattle.client_watches.proofs.catching.catch_up.Goals as goal

pub loop-runs-init : goal.loop-runs-init
loop-runs-init g c = record {
  played = Leads.stays;
  keeps = c.requires;
  free = λ name none. none;
  home = refl;
}

pub returns-in_err-runs-clause-plays : goal.returns-in_err-runs-clause-plays
returns-in_err-runs-clause-plays g c = fails _ c.from_residual.result c.from_residual.ensures.1 (wants c.loop-runs.invariant.played)

pub returns-in_err-report_all-clause-plays : goal.returns-in_err-report_all-clause-plays
returns-in_err-report_all-clause-plays g c =
    fails _ c.from_residual-in_err-report_all.result c.from_residual-in_err-report_all.ensures.1 (wants c.loop-runs.invariant.played)

pub returns-in_err-all-clause-plays : goal.returns-in_err-all-clause-plays
returns-in_err-all-clause-plays g c =
    fails _ c.from_residual-in_err-all.result c.from_residual-in_err-all.ensures.1
    (stops_behind c.loop-runs.invariant.played c.in_err-all.ensures.goes)

pub returns-in-Some-2-clause-plays : goal.returns-in-Some-2-clause-plays
returns-in-Some-2-clause-plays g c =
    and_then c.loop-runs.invariant.played
    (to_same (ap (λ o. or_more catch_up (o, c.rerun_some.new.watching, c.rerun_some.new.said)) c.in-Some-2.is) c.in_ok-all.ensures.goes)

pub loop-runs-preserved : goal.loop-runs-preserved
loop-runs-preserved g c = record {
  played = and_then c.loop-runs.invariant.played
      (to_same (ap (λ o. or_more catch_up (o, c.rerun_some.new.watching, c.rerun_some.new.said)) c.in_default-2.is) c.in_ok-all.ensures.goes);
  keeps = c.in_ok-all.ensures.keeps;
  free = λ name none. c.in_ok-all.ensures.free name (c.loop-runs.invariant.free name none);
  home = c.rerun_some.ensures.home ∙ c.loop-runs.invariant.home;
}
