use Rattle.hold_core.proofs.LeastBars.{bars-are-least}
use Rattle.hold_core.proofs.laws.bars_are_least.Goals as goal

pub returns : goal.returns
returns c = bars-are-least
