use Rattle.journal_core.proofs.Ordering.{least-is-first}
use Rattle.journal_core.proofs.laws.least_is_first.Goals as goal

pub returns : goal.returns
returns c = least-is-first
