use Rattle.rdt_types.proofs.Laws.{compositions_associate}
use Rattle.rdt_types.proofs.delta.compositions_associate.Goals as goal

pub returns : goal.returns
returns c = compositions_associate
