use Rattle.std.proofs.Common.{◌≡◌, ◌-◌, take, drop}
use Rattle.std.specs.VecDeque.Iter.{deque_iter_rest}
use Rattle.version_shard.specs.Versions.{value_after}
use Rattle.version_shard.proofs.chain.Chain.applied.Given as goal

-- the versions that are left make of the value so far what all make of the one given
abbrev pub invariant-loop-version : goal.invariant-loop-version
invariant-loop-version l = value_after l.value (deque_iter_rest l.version-iterator)
    ≡ value_after l.fn.value (take (l.fn.to - l.fn.from) (drop l.fn.from l.fn.self.later))
