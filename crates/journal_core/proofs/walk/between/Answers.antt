use Rattle.std.proofs.Common.{nat_le}
use Rattle.change_feed.specs.Lists.{listed}
use Rattle.journal_core.proofs.Rising.{rises-filter}
use Rattle.journal_core.proofs.walk.between.Goals as goal

-- what is left of changes in order is in order
pub past-requires-clause-order : goal.past-requires-clause-order
past-requires-clause-order c = rw c.up_to.ensures.changes (rises-filter (λ change. nat_le change.number c.args.to) 0 (listed c.args.changes) c.requires.order)
