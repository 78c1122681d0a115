use Rattle.std.proofs.Common.{◌≡◌, drop}
use Rattle.remote_service.specs.Malformed.{are_valid}
use Rattle.remote_service.proofs.valid.are_valid.Given as goal

-- all so far
abbrev pub invariant-loop-observed : goal.invariant-loop-observed
invariant-loop-observed l = are_valid l.fn.kept l.fn.shards l.fn.shard l.fn.based ≡ are_valid l.fn.kept l.fn.shards l.fn.shard (drop l.observed-index l.based)
