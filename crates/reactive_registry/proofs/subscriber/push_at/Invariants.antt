use Rattle.std.proofs.Common.{◌≡◌, ◌++◌, take, drop, length}
use Rattle.change_feed.specs.Changes.{of_address}
use Rattle.reactive_registry.proofs.subscriber.push_at.Given as goal

-- what was added, and what the rest adds, are all; the old ones are still there
abbrev pub invariant-loop-change : goal.invariant-loop-change
invariant-loop-change l = record {
  all : l.changes.items ++ of_address l.address (drop l.change-index l.missed) ≡ l.fn.changes.items ++ of_address l.address l.missed;
  begun : take (length l.fn.changes.items) l.changes.items ≡ l.fn.changes.items;
}
