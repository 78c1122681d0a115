use Rattle.std.proofs.Common.{◌≡◌, ◌++◌}
use Rattle.change_feed.specs.Lists.{listed, pieces_left}
use Rattle.journal_core.specs.Changes.{of_shard}
use Rattle.journal_relay.proofs.parts.copies_in_shard.Given as goal

-- what was copied, and what is to be copied of the pieces that are left, are all
abbrev pub invariant-loop-piece : goal.invariant-loop-piece
invariant-loop-piece l = l.list ++ of_shard l.shards l.shard (listed l.changes) ≡ of_shard l.fn.shards l.fn.shard (listed l.fn.changes)

-- the pieces come to an end
abbrev pub decreases-loop-piece : goal.decreases-loop-piece
decreases-loop-piece l = pieces_left l.changes
