use Rattle.std.proofs.Common.{◌≡◌, drop}
use Rattle.remote_service.specs.Keeping.{was_given}
use Rattle.remote_service.proofs.kept.was_given.Given as goal

-- none so far
abbrev pub invariant-loop-snap : goal.invariant-loop-snap
invariant-loop-snap l = was_given l.fn.kept l.fn.address l.fn.base ≡ was_given (drop l.snap-index l.kept) l.fn.address l.fn.base
