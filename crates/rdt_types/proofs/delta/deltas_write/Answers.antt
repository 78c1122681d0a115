use Rattle.rdt_types.proofs.Laws.{deltas_write}
use Rattle.rdt_types.proofs.delta.deltas_write.Goals as goal

pub returns : goal.returns
returns c = deltas_write
