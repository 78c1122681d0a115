use Rattle.std.proofs.Common.{◌≡◌, drop}
use Rattle.remote_service.specs.Anew.{are_observed}
use Rattle.remote_service.proofs.anew.are_observed.Given as goal

-- all so far
abbrev pub invariant-loop-named : goal.invariant-loop-named
invariant-loop-named l = are_observed l.fn.bases l.fn.seen ≡ are_observed (drop l.named-index l.bases) l.fn.seen
