use Rattle.std.proofs.Common.{◌≡◌, drop}
use Rattle.change_feed.specs.Feeds.{joined}
use Rattle.change_feed.proofs.feed.joined.Given as goal

-- what was added, and then the rest, are all
abbrev pub invariant-loop-address : goal.invariant-loop-address
invariant-loop-address l = joined l.all (drop l.address-index l.later) ≡ joined l.fn.changes l.fn.later
