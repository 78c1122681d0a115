use Rattle.std.proofs.Common.{◌≡◌, ℕ, ◌++◌, drop, length}
use Rattle.journal_core.specs.Changes.{changes, of_shard}
use Rattle.journal_core.specs.code.ByShard.{list_at}
use Rattle.journal_core.proofs.log.lists_of.Given as goal

-- the changes so far, and those of the rest, are all
abbrev pub invariant-loop-commit : goal.invariant-loop-commit
invariant-loop-commit l =
    (length l.lists.items ≡ l.shards)
    × ((shard : ℕ) → list_at l.lists.items shard ++ of_shard l.shards shard (changes (drop l.commit-index l.commits))
    ≡ of_shard l.fn.shards shard (changes l.fn.commits))
