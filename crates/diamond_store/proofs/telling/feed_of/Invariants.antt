use Rattle.std.proofs.Common.{◌≡◌, filter, []}
use Rattle.change_feed.specs.Feeds.{with_changes}
use Rattle.change_feed.specs.Lists.{listed, pieces_left}
use Rattle.diamond_store.specs.Passes.{is_in}
use Rattle.diamond_store.proofs.telling.feed_of.Given as goal

-- what was added, and then what is told of the pieces that are left, are all that is told
abbrev pub invariant-loop-piece : goal.invariant-loop-piece
invariant-loop-piece l = record {
  to : l.feed.to ≡ l.fn.tail.to;
  all : with_changes l.feed.changes (filter (λ change. is_in l.fn.subscribed.keys change.address) (listed l.changes))
      ≡ with_changes [] (filter (λ change. is_in l.fn.subscribed.keys change.address) l.fn.tail.changes);
}

-- the pieces come to an end
abbrev pub decreases-loop-piece : goal.decreases-loop-piece
decreases-loop-piece l = pieces_left l.changes
