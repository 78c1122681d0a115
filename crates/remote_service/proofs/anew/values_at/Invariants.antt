use Rattle.std.proofs.Common.{◌≡◌, drop}
use Rattle.remote_service.specs.Anew.{values_at, values_on}
use Rattle.remote_service.proofs.anew.values_at.Given as goal

-- the values so far, and those at the rest, are those at all
abbrev pub invariant-loop-named : goal.invariant-loop-named
invariant-loop-named l = values_at l.fn.kept l.fn.bases ≡ values_on l.fn.kept (drop l.named-index l.bases) l.snaps
