use Rattle.reactive_registry.proofs.Standing.{takes_stand}
use Rattle.reactive_registry.proofs.laws.takes_stand.Goals as goal

pub returns : goal.returns
returns c = takes_stand
