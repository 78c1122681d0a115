use Rattle.reactive_registry.proofs.Standing.{pending_is_since}
use Rattle.reactive_registry.proofs.laws.pending_is_since.Goals as goal

pub returns : goal.returns
returns c = pending_is_since
