use Rattle.reactive_registry.proofs.Standing.{entries_stand}
use Rattle.reactive_registry.proofs.laws.entries_stand.Goals as goal

pub returns : goal.returns
returns c = entries_stand
