use Rattle.std.proofs.Common.{◌≡◌, ℕ, ◌++◌, length}
use Rattle.journal_core.specs.Changes.{of_shard}
use Rattle.journal_core.specs.code.ByShard.{list_at, HasRoom}
use Rattle.journal_core.proofs.log.add_each.Given as goal

-- the changes added so far, and those of the rest, are all; there is memory for the rest
abbrev pub invariant-loop-change : goal.invariant-loop-change
invariant-loop-change l =
    (length l.lists.items ≡ length l.fn.lists.items) × (length l.fn.lists.items ≡ l.shards) × HasRoom (length l.change-iterator.rest.items) l.lists.items
    × ((shard : ℕ) → list_at l.lists.items shard ++ of_shard l.shards shard l.change-iterator.rest.items ≡ list_at l.fn.lists.items shard
    ++ of_shard l.fn.shards shard l.fn.changes.items)
