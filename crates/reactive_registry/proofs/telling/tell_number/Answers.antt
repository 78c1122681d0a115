use Rattle.std.proofs.Common.{◌∙◌, ℕ, ap, option_map}
use Rattle.std.specs.Ordering.{nat_cmp}
use Rattle.std.specs.BTreeMap.{is_at}
use Rattle.edge_slab.specs.Edges.{is_linked}
use Rattle.reactive_registry.specs.Registered.{kept_in}
use Rattle.reactive_registry.specs.code.Telling.{pushed, cut}
use Rattle.reactive_registry.proofs.Told.{done_next, once_next, within_next, next_apart, cut_pushed, not_done}
use Rattle.reactive_registry.proofs.telling.tell_number.Goals as goal

pub loop-subscriber-preserved : goal.loop-subscriber-preserved
loop-subscriber-preserved c =
    let all = c.loop-subscriber.subscriber-iterator in
    let rest = c.next.new.self in
    let s = c.in-Some.subscriber in
    let split = c.in-Some.ensures.steps in
    let kept = c.loop-subscriber.invariant in
    let told = c.in_ok-tell_one.ensures.ok in
    let linked = λ (q : ℕ). is_linked c.args.edges.now q c.args.number in
    record {
      once = once_next all rest s split kept.once;
      within = λ q e. within_next all rest s q (linked q) split (kept.within q) e;
      ok = λ q.
          done_next all rest s q (pushed c.args.change.now) (kept_in c.loop-subscriber.subscribers.entries q)
          (kept_in c.tell_one.new.subscribers.entries q) split kept.once (told q)
          ∙ kept.ok q;
      behind = λ front past q.
          ap (option_map (cut front)) (told q)
          ∙ cut_pushed front c.args.change.now (is_at (nat_cmp s) q) (kept_in c.loop-subscriber.subscribers.entries q) past
          ∙ kept.behind front past q;
      elsewhere = λ q out.
          told q
          ∙ not_done (is_at (nat_cmp s) q) (pushed c.args.change.now) (kept_in c.loop-subscriber.subscribers.entries q)
          (next_apart all rest s q (linked q) split (kept.within q) out)
          ∙ kept.elsewhere q out;
    }
