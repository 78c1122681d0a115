use Rattle.std.proofs.Common.{◌≡◌, ◌-◌, length, take, drop, sym, ap, ◌∙◌, arith}
use Rattle.std.specs.VecDeque.Iter.{deque_iter_rest}
use Rattle.journal_core.proofs.Rising.{all_behind}
use Rattle.version_shard.specs.Versions.{Versioned, past}
use Rattle.version_shard.specs.code.Clashing.{first_clashing}
use Rattle.version_shard.proofs.Chains.{parts-past}
use Rattle.version_shard.proofs.chain.Chain.first_clash.Goals as goal

pub loop-version-init : goal.loop-version-init
loop-version-init g c =
    let all = c.self.inside.later.items in
    let base = c.args.based.now.base in
    let from = c.count_to-from.result in
    let len = c.self.inside.later.ok.0 in
    let past_is : deque_iter_rest c.into_iter-version-iterator.result ≡ past base c.args.self.now.later =
    ap deque_iter_rest c.into_iter-version-iterator.ensures.into_iter_gives
    ∙ c.range-version-items.ensures.rest
    ∙ ap (λ n. take (n - from) (drop from all)) len
    ∙ all_behind all from
    ∙ ap (λ (v : Versioned). drop from v.later) c.self.view_is
    ∙ sym (parts-past base from c.args.self.now.later c.count_to-from.ensures)
    in
    let same = ap length past_is in
    record { first = ap (first_clashing c.args.based.now.obs) past_is; steps = omega (arith, same) }
