use Rattle.std.proofs.Common.{◌≡◌}
use Rattle.hold_core.specs.code.Index.{first_places}
use Rattle.hold_core.proofs.placing.first_places.Given as goal

-- so many are there
abbrev pub invariant-loop-place : goal.invariant-loop-place
invariant-loop-place l = l.places.items ≡ first_places l.place
