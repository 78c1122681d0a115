use Rattle.std.proofs.Common.{◌∙◌}
use Rattle.reactive_registry.specs.Registered.{kept_in}
use Rattle.reactive_registry.specs.code.Telling.{cut}
use Rattle.reactive_registry.proofs.Told.{done_next, once_next}
use Rattle.reactive_registry.proofs.telling.cut_number.Goals as goal

pub loop-subscriber-preserved : goal.loop-subscriber-preserved
loop-subscriber-preserved c =
    let all = c.loop-subscriber.subscriber-iterator in
    let rest = c.next.new.self in
    let s = c.in-Some.subscriber in
    record {
      once = once_next all rest s c.in-Some.ensures.steps c.loop-subscriber.invariant.once;
      all = λ q.
          done_next all rest s q (cut c.args.front) (kept_in c.loop-subscriber.subscribers.entries q) (kept_in c.cut_one.new.subscribers.entries q)
          c.in-Some.ensures.steps c.loop-subscriber.invariant.once (c.cut_one.ensures q)
          ∙ c.loop-subscriber.invariant.all q;
    }
