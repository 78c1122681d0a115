use Rattle.rdt_types.proofs.Laws.{compositions_apply_in_turn}
use Rattle.rdt_types.proofs.delta.compositions_apply_in_turn.Goals as goal

pub returns : goal.returns
returns c = compositions_apply_in_turn
