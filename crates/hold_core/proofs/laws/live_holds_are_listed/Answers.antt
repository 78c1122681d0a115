use Rattle.hold_core.proofs.Listed.{live-holds-are-listed}
use Rattle.hold_core.proofs.laws.live_holds_are_listed.Goals as goal

pub returns : goal.returns
returns c = live-holds-are-listed
