use Rattle.client_cache.proofs.Following.{pending_applies_in_turn}
use Rattle.client_cache.proofs.laws.pending_applies_in_turn.Goals as goal

pub returns : goal.returns
returns c = pending_applies_in_turn
