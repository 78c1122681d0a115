use Rattle.hold_core.proofs.Covered.{covered-is-clear}
use Rattle.hold_core.proofs.laws.covered_is_clear.Goals as goal

pub returns : goal.returns
returns c = covered-is-clear
