use Rattle.std.proofs.Common.{◌≡◌, drop}
use Rattle.journal_core.specs.Pairs.{front_at}
use Rattle.journal_core.proofs.deciding.front_at.Given as goal

-- none of the fronts so far is of the shard
abbrev pub invariant-loop-prepared : goal.invariant-loop-prepared
invariant-loop-prepared l = front_at (drop l.prepared-index l.fronts) l.shard ≡ front_at l.fn.fronts l.fn.shard
