use Rattle.std.proofs.Common.{◌≡◌, ◌++◌, take, length}
use Rattle.change_feed.specs.Changes.{of_address}
use Rattle.change_feed.specs.Lists.{listed, pieces_left}
use Rattle.reactive_registry.proofs.subscriber.push_missed.Given as goal

-- what was added, and what the rest adds, are all; the old ones are still there
abbrev pub invariant-loop-piece : goal.invariant-loop-piece
invariant-loop-piece l = record {
  all : l.changes.items ++ of_address l.address (listed l.rest) ≡ l.fn.changes.items ++ of_address l.address l.missed;
  begun : take (length l.fn.changes.items) l.changes.items ≡ l.fn.changes.items;
}

-- the pieces come to an end
abbrev pub decreases-loop-piece : goal.decreases-loop-piece
decreases-loop-piece l = pieces_left l.rest
