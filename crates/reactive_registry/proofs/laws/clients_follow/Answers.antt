use Rattle.reactive_registry.proofs.Clients.{clients_follow}
use Rattle.reactive_registry.proofs.laws.clients_follow.Goals as goal

pub returns : goal.returns
returns c = clients_follow
