use Rattle.hold_core.proofs.Ends.{holds-end-only-so}
use Rattle.hold_core.proofs.laws.holds_end_only_so.Goals as goal

pub returns : goal.returns
returns c = holds-end-only-so
