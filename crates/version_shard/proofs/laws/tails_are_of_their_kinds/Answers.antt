use Rattle.version_shard.proofs.Legal.{tails-are-of-their-kinds}
use Rattle.version_shard.proofs.laws.tails_are_of_their_kinds.Goals as goal

pub returns : goal.returns
returns c = tails-are-of-their-kinds
