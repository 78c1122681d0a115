use Rattle.change_feed.proofs.Pending.{pending_joins}
use Rattle.change_feed.proofs.laws.pending_joins.Goals as goal

pub returns : goal.returns
returns c = pending_joins
