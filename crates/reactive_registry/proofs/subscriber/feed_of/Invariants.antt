use Rattle.std.proofs.Common.{◌≡◌, drop, []}
use Rattle.change_feed.specs.Feeds.{with_changes}
use Rattle.reactive_registry.proofs.subscriber.feed_of.Given as goal

-- what was added, and then the rest, are all
abbrev pub invariant-loop-change : goal.invariant-loop-change
invariant-loop-change l = record {
  to : l.feed.to ≡ l.to;
  all : with_changes l.feed.changes (drop l.change-index l.changes) ≡ with_changes [] l.changes;
}
