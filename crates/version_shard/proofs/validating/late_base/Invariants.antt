use Rattle.std.proofs.Common.{◌≡◌, drop}
use Rattle.version_shard.specs.Bases.{least_base}
use Rattle.version_shard.proofs.Bases.{lesser_base}
use Rattle.version_shard.proofs.validating.late_base.Given as goal

-- the least so far and the least of the rest are the least of all
abbrev pub invariant-loop-based : goal.invariant-loop-based
invariant-loop-based l = lesser_base l.least (least_base (drop l.based-index l.fn.based)) ≡ least_base l.fn.based
