use Rattle.rerun_driver.specs.code.Places.{IsStill}
use Rattle.rerun_driver.proofs.placing.reserve_all.Given as goal

-- the same numbers stand everywhere
abbrev pub invariant-loop-seen : goal.invariant-loop-seen
invariant-loop-seen l = IsStill l.fn.places l.places
