use Rattle.std.proofs.Common.{◌≡◌, ◌++◌}
use Rattle.change_feed.specs.Lists.{listed, pieces_left}
use Rattle.journal_core.specs.Changes.{of_address}
use Rattle.journal_core.proofs.copying.copies_of_address.Given as goal

-- what was copied, and what is to be copied of the pieces that are left, are all
abbrev pub invariant-loop-piece : goal.invariant-loop-piece
invariant-loop-piece l = l.list ++ of_address l.address (listed l.changes) ≡ of_address l.fn.address (listed l.fn.changes)

-- the pieces come to an end
abbrev pub decreases-loop-piece : goal.decreases-loop-piece
decreases-loop-piece l = pieces_left l.changes
