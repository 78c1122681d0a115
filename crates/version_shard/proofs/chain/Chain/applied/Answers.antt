use Rattle.std.proofs.Common.{◌-◌, take, drop, ap, ◌∙◌}
use Rattle.std.specs.VecDeque.Iter.{deque_iter_rest}
use Rattle.version_shard.specs.Versions.{Versioned, value_after}
use Rattle.version_shard.proofs.chain.Chain.applied.Goals as goal

pub loop-version-init : goal.loop-version-init
loop-version-init c =
    ap (value_after c.args.value)
    (ap deque_iter_rest c.into_iter-version-iterator.ensures.into_iter_gives
    ∙ c.range-version-items.ensures.rest
    ∙ ap (λ (v : Versioned). take (c.args.to - c.args.from) (drop c.args.from v.later)) c.self.view_is)
