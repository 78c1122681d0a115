use Rattle.reactive_registry.proofs.GoingOn.{unsubscribes_stand}
use Rattle.reactive_registry.proofs.laws.unsubscribes_stand.Goals as goal

pub returns : goal.returns
returns c = unsubscribes_stand
