use Rattle.reactive_registry.proofs.Clients.{all_stand}
use Rattle.reactive_registry.proofs.laws.all_stand.Goals as goal

pub returns : goal.returns
returns c = all_stand
