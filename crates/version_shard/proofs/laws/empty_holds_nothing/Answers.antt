use Rattle.version_shard.proofs.Holding.{empty-holds}
use Rattle.version_shard.proofs.laws.empty_holds_nothing.Goals as goal

pub returns : goal.returns
returns c = empty-holds
