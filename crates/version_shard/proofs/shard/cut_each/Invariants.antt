use Rattle.std.proofs.Common.{◌≡◌}
use Rattle.rdt_types.specs.declared.address.Address.{Address}
use Rattle.change_feed.specs.Lists.{listed, pieces_left}
use Rattle.version_shard.specs.Shards.{versions_of}
use Rattle.version_shard.specs.code.Following.{cut_along}
use Rattle.version_shard.proofs.shard.cut_each.Given as goal

-- once the rest is cut, all are
abbrev pub invariant-loop-piece : goal.invariant-loop-piece
invariant-loop-piece l = (a : Address) → cut_along l.number a (listed l.rest) (versions_of l.kept a)
    ≡ cut_along l.number a (listed l.changes) (versions_of l.fn.kept a)

-- the pieces come to an end
abbrev pub decreases-loop-piece : goal.decreases-loop-piece
decreases-loop-piece l = pieces_left l.rest
