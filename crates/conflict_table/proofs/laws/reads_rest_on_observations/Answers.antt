use Rattle.conflict_table.proofs.Resting.{reads_rest_on_observations}
use Rattle.conflict_table.proofs.laws.reads_rest_on_observations.Goals as goal

pub returns : goal.returns
returns c = reads_rest_on_observations
