use Rattle.change_feed.proofs.Feeds.{feeds_keep_pending}
use Rattle.change_feed.proofs.laws.feeds_keep_pending.Goals as goal

pub returns : goal.returns
returns c = feeds_keep_pending
