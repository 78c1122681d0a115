use Rattle.std.proofs.Common.{◌≡◌, drop}
use Rattle.rerun_driver.specs.Watches.{touches}
use Rattle.rerun_driver.proofs.touching.touches_by.Given as goal

-- none of the observations so far clashes, and the rest decide
abbrev pub invariant-loop-seen : goal.invariant-loop-seen
invariant-loop-seen g l = touches l.changes (drop l.seen-index l.observations) ≡ touches l.fn.changes l.fn.observations
