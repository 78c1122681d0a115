use Rattle.change_feed.proofs.Feeds.{feeds_join}
use Rattle.change_feed.proofs.laws.feeds_join.Goals as goal

pub returns : goal.returns
returns c = feeds_join
