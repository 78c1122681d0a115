use Rattle.std.proofs.Common.{ap, ◌∙◌}
use Rattle.version_shard.specs.Shards.{Sharded}
use Rattle.local_world.proofs.Made.{one-made, more-made}
use Rattle.local_world.proofs.making.empty_shards.Goals as goal

pub loop-number-preserved : goal.loop-number-preserved
loop-number-preserved c =
    let none = c.none-none.result in
    let s = c.in_ok-new.field-0 in
    more-made c.args.settings.now c.loop-number.number c.loop-number.shards.items c.push.new.self.items s c.loop-number.invariant
    (one-made c.args.settings.now c.loop-number.number none s c.none-none.ensures.from c.none-none.ensures.to c.none-none.ensures.changes
    c.in_ok-new.ensures.same c.in_ok-new.ensures.holds)
    (ap (λ (x : Sharded). x.front) c.in_ok-new.ensures.same ∙ c.none-none.ensures.to) c.in_ok-push.ensures.items
