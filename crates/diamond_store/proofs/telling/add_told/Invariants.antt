use Rattle.std.proofs.Common.{◌≡◌, drop, filter}
use Rattle.change_feed.specs.Feeds.{with_changes}
use Rattle.diamond_store.specs.Passes.{is_in}
use Rattle.diamond_store.proofs.telling.add_told.Given as goal

-- what was added, and then what is told of the rest, are all that is told
abbrev pub invariant-loop-change : goal.invariant-loop-change
invariant-loop-change l = record {
  to : l.feed.to ≡ l.fn.feed.to;
  all : with_changes l.feed.changes (filter (λ change. is_in l.fn.subscribed.keys change.address) (drop l.change-index l.changes))
      ≡ with_changes l.fn.feed.changes (filter (λ change. is_in l.fn.subscribed.keys change.address) l.fn.changes);
}
