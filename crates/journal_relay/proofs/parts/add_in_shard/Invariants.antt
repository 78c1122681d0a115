use Rattle.std.proofs.Common.{◌≡◌, ◌++◌, drop}
use Rattle.journal_core.specs.Changes.{of_shard}
use Rattle.journal_relay.proofs.parts.add_in_shard.Given as goal

-- what was added, and what is to be added of the rest, are all
abbrev pub invariant-loop-change : goal.invariant-loop-change
invariant-loop-change l =
    l.list ++ of_shard l.shards l.shard (drop l.change-index l.changes) ≡ l.fn.list ++ of_shard l.fn.shards l.fn.shard l.fn.changes
