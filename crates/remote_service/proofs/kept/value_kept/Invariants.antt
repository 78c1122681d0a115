use Rattle.std.proofs.Common.{◌≡◌, drop}
use Rattle.remote_service.specs.Keeping.{value_kept}
use Rattle.remote_service.proofs.kept.value_kept.Given as goal

-- none so far
abbrev pub invariant-loop-snap : goal.invariant-loop-snap
invariant-loop-snap l = value_kept l.fn.kept l.fn.address l.fn.base ≡ value_kept (drop l.snap-index l.kept) l.fn.address l.fn.base
