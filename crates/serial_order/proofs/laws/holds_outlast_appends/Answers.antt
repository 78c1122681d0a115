use Rattle.serial_order.proofs.Holding.{holds-outlast-appends}
use Rattle.serial_order.proofs.laws.holds_outlast_appends.Goals as goal

pub returns : goal.returns
returns c = holds-outlast-appends
