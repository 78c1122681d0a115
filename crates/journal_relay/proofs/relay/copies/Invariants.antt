use Rattle.std.proofs.Common.{◌≡◌, ◌++◌}
use Rattle.change_feed.specs.Lists.{listed, pieces_left}
use Rattle.journal_relay.proofs.relay.copies.Given as goal

-- what was copied, and the pieces that are left, are all
abbrev pub invariant-loop-piece : goal.invariant-loop-piece
invariant-loop-piece l = l.list ++ listed l.changes ≡ listed l.fn.changes

-- the pieces come to an end
abbrev pub decreases-loop-piece : goal.decreases-loop-piece
decreases-loop-piece l = pieces_left l.changes
