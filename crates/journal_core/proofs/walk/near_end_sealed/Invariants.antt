use Rattle.std.proofs.Common.{◌-◌, ◌<◌, length}
use Rattle.journal_core.proofs.walk.near_end_sealed.Given as goal

abbrev pub invariant-loop-step : goal.invariant-loop-step
invariant-loop-step l = 0 < l.step

abbrev pub decreases-loop-step : goal.decreases-loop-step
decreases-loop-step l = length l.sealed - l.step
