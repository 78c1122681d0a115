use Rattle.std.proofs.Common.{◌∙◌}
use Rattle.change_feed.specs.Lists.{listed}
use Rattle.version_shard.specs.Shards.{versions_of}
use Rattle.version_shard.proofs.Pieces.{cut-pieces}
use Rattle.version_shard.proofs.shard.cut_each.Goals as goal

-- each piece is cut after those before it
pub loop-piece-preserved : goal.loop-piece-preserved
loop-piece-preserved c a =
    cut-pieces (listed c.loop-piece.rest) c.in-Some.piece.now (listed c.next_piece.new.self) c.in-Some.ensures.piece c.args.number a
    (versions_of c.loop-piece.kept a) (versions_of c.cut_piece.new.kept a) (c.cut_piece.ensures a)
    ∙ c.loop-piece.invariant a
