use Rattle.std.proofs.Common.{◌≡◌, drop}
use Rattle.docc_prepare.specs.Serial.{is_observed}
use Rattle.remote_service.proofs.anew.is_seen.Given as goal

-- none so far
abbrev pub invariant-loop-observed : goal.invariant-loop-observed
invariant-loop-observed l = is_observed l.fn.seen l.fn.address ≡ is_observed (drop l.observed-index l.seen) l.fn.address
