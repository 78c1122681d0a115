use Rattle.std.proofs.Common.{◌≡◌, ◌≤◌, ◌+◌, nat_lt, filter, length}
use Rattle.std.specs.VecDeque.Iter.{deque_iter_rest}
use Rattle.version_shard.specs.code.Clashing.{first_clashing}
use Rattle.version_shard.proofs.chain.Chain.first_clash.Given as goal

-- none so far clashes, and a step is left for each of the others
abbrev pub invariant-loop-version : goal.invariant-loop-version
invariant-loop-version g l = record {
  first : first_clashing l.based.obs (deque_iter_rest l.version-iterator)
      ≡ first_clashing l.fn.based.obs (filter (λ version. nat_lt l.fn.based.base version.number) l.fn.self.later);
  steps : l.steps + length (deque_iter_rest l.version-iterator)
      ≤ l.fn.steps + length (filter (λ version. nat_lt l.fn.based.base version.number) l.fn.self.later);
}
