use Rattle.reactive_registry.proofs.Clients.{one_stands}
use Rattle.reactive_registry.proofs.laws.one_stands.Goals as goal

pub returns : goal.returns
returns c = one_stands
