use Rattle.std.proofs.Common.{◌≡◌, drop}
use Rattle.docc_prepare.specs.Attempts.{has_front}
use Rattle.docc_prepare.proofs.observed.has_front.Given as goal

-- none so far
abbrev pub invariant-loop-prepared : goal.invariant-loop-prepared
invariant-loop-prepared l = has_front l.fn.fronts l.fn.shard ≡ has_front (drop l.prepared-index l.fronts) l.fn.shard
