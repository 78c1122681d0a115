use Rattle.std.proofs.Common.{◌≡◌, drop}
use Rattle.rdt_types.specs.declared.address.Address.{Address}
use Rattle.version_shard.specs.Shards.{versions_of}
use Rattle.version_shard.specs.code.Following.{cut_along}
use Rattle.version_shard.proofs.shard.cut_piece.Given as goal

-- once the rest is cut, all are
abbrev pub invariant-loop-change : goal.invariant-loop-change
invariant-loop-change l = (a : Address) → cut_along l.number a (drop l.change-index l.piece) (versions_of l.kept a)
    ≡ cut_along l.number a l.piece (versions_of l.fn.kept a)
