use Rattle.std.proofs.Common.{◌∙◌}
use Rattle.history_lock.proofs.Prefixes.{IsPrefix-trans}
use Rattle.reactive_registry.specs.Registered.{is_subscribed}
use Rattle.diamond_store.proofs.Told.{told-next}
use Rattle.diamond_store.proofs.feeder.register_all.Goals as goal

pub loop-address-preserved : goal.loop-address-preserved
loop-address-preserved g c =
    let kept = c.loop-address.invariant in
    let t = c.register in
    record {
      begins = IsPrefix-trans c.args.post.now.token.seen c.loop-address.post.token.seen t.new.post.token.seen kept.begins t.ensures.begins;
      tells = t.ensures.tells;
      front = t.ensures.front ∙ kept.front;
      taken = t.ensures.taken;
      told = λ a there.
          told-next c.loop-address.address-iterator c.next.new.self c.in-Some.address.now a c.in-Some.ensures.steps
          (is_subscribed c.loop-address.post.registry c.args.taker.now.client a) (is_subscribed t.new.post.registry c.args.taker.now.client a) (c.in_ok-register.ensures.told a)
          (kept.told a there);
    }
