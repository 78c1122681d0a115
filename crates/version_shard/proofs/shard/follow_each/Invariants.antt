use Rattle.std.proofs.Common.{◌++◌, drop}
use Rattle.change_feed.specs.Lists.{listed, pieces_left}
use Rattle.version_shard.proofs.Pieces.{AreLeft}
use Rattle.version_shard.proofs.shard.follow_each.Given as goal

-- those so far were followed
abbrev pub invariant-loop-piece : goal.invariant-loop-piece
invariant-loop-piece l = AreLeft l.window l.tail.changes.now (listed l.rest) l.fn.kept l.kept

-- the pieces come to an end
abbrev pub decreases-loop-piece : goal.decreases-loop-piece
decreases-loop-piece l = pieces_left l.rest

-- of a piece too
abbrev pub invariant-loop-change : goal.invariant-loop-change
invariant-loop-change l = AreLeft l.window l.tail.changes.now (drop l.change-index l.piece ++ listed l.rest) l.fn.kept l.kept
