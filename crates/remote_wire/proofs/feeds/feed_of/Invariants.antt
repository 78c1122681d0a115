use Rattle.std.proofs.Common.{◌≡◌, drop}
use Rattle.change_feed.specs.Feeds.{joined}
use Rattle.remote_wire.proofs.feeds.feed_of.Given as goal

-- the feed with the rest of the changes has all of them
abbrev pub invariant-loop-address : goal.invariant-loop-address
invariant-loop-address l = record {
  to : l.feed.to ≡ l.to;
  joined : joined l.feed.changes (drop l.address-index l.address-items) ≡ l.changes;
}
