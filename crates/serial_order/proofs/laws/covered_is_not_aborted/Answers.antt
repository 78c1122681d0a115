use Rattle.serial_order.proofs.Holding.{covered-is-not-aborted}
use Rattle.serial_order.proofs.laws.covered_is_not_aborted.Goals as goal

pub returns : goal.returns
returns c = covered-is-not-aborted
