use Rattle.abort_witness.proofs.LeastPair.{least-is-least}
use Rattle.abort_witness.proofs.laws.least_is_least.Goals as goal

pub returns : goal.returns
returns c = least-is-least
