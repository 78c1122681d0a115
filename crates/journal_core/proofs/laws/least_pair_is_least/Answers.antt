use Rattle.journal_core.proofs.LeastOfAll.{least-pair-is-least}
use Rattle.journal_core.proofs.laws.least_pair_is_least.Goals as goal

pub returns : goal.returns
returns c = least-pair-is-least
