use Rattle.std.proofs.Common.{ℕ, List, inl, inr, ap, sym, ◌∙◌}
use Rattle.rerun_driver.specs.code.Numbers.{is_among}
use Rattle.rerun_driver.specs.code.Places.{numbers_at}
use Rattle.rerun_driver.proofs.Links.{stays-put, put-next, only-next}
use Rattle.rerun_driver.proofs.placing.put_all.Goals as goal

pub loop-seen-init : goal.loop-seen-init
loop-seen-init c = record {
  stays = λ a m e. e;
  put = λ a e. inr e;
  only = λ a m e. inl e;
}

pub loop-seen-preserved : goal.loop-seen-preserved
loop-seen-preserved c =
    let first = numbers_at c.args.places.now in
    let before = numbers_at c.loop-seen.places in
    let after = numbers_at c.put.new.self in
    let seen = c.seen-item.result in
    let puts = c.if-not-put.ensures.put in
    record {
      stays = λ a m e. stays-put before after seen.address c.args.number puts a m (c.loop-seen.invariant.stays a m e);
      put = λ a e.
          put-next before after c.args.number c.loop-seen.seen-index c.args.observations.now seen c.loop-seen-test.true (sym c.seen-item.is) puts a
          (c.loop-seen.invariant.put a e);
      only = only-next first before after c.args.number c.loop-seen.seen-index c.args.observations.now seen c.loop-seen-test.true (sym c.seen-item.is) puts
          c.loop-seen.invariant.only;
    }

pub returns-then-not-put-clause-only : goal.returns-then-not-put-clause-only
returns-then-not-put-clause-only c a m e =
    c.loop-seen.invariant.only a m (sym (ap (λ (xs : List ℕ). is_among xs m) (c.put.ensures.none c.if-not-put.true a)) ∙ e)
