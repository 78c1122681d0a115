use Rattle.reactive_registry.proofs.GoingOn.{subscribes_stand}
use Rattle.reactive_registry.proofs.laws.subscribes_stand.Goals as goal

pub returns : goal.returns
returns c = subscribes_stand
