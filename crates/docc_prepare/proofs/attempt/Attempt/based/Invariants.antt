use Rattle.std.proofs.Common.{◌≡◌, ◌++◌, drop}
use Rattle.docc_prepare.specs.Attempts.{based, in_shard}
use Rattle.docc_prepare.proofs.attempt.Attempt.based.Given as goal

-- what is there, and then those of the rest, are all
abbrev pub invariant-loop-seen : goal.invariant-loop-seen
invariant-loop-seen l =
    l.inside ++ in_shard l.fn.self.shards l.fn.shard (based l.fn.self.snaps (drop l.seen-index l.observations)) ≡ in_shard l.fn.self.shards l.fn.shard
    (based l.fn.self.snaps l.fn.run.observations)
