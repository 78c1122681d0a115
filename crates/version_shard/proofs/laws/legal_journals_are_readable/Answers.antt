use Rattle.version_shard.proofs.Legal.{legal-is-readable}
use Rattle.version_shard.proofs.laws.legal_journals_are_readable.Goals as goal

pub returns : goal.returns
returns c = legal-is-readable
