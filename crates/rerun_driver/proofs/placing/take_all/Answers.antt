use Rattle.std.proofs.Common.{refl, inr, sym, ◌∙◌, arith}
use Rattle.rerun_driver.specs.code.Places.{numbers_at}
use Rattle.rerun_driver.proofs.Links.{stays-out, fewer-out, gone-next, gone-all}
use Rattle.rerun_driver.proofs.placing.take_all.Goals as goal

pub loop-seen-init : goal.loop-seen-init
loop-seen-init c = record {
  others = λ a m e. refl;
  fewer = λ a m e. e;
  gone = λ a e. inr e;
}

pub loop-seen-preserved : goal.loop-seen-preserved
loop-seen-preserved c =
    let before = numbers_at c.loop-seen.places in
    let after = numbers_at c.take_out.new.self in
    let seen = c.seen-item.result in
    let taken = c.take_out.ensures.taken in
    record {
      others = λ a m other. stays-out before after seen.address c.args.number taken a m other ∙ c.loop-seen.invariant.others a m other;
      fewer = λ a m e. c.loop-seen.invariant.fewer a m (fewer-out before after seen.address c.args.number taken a m e);
      gone = λ a e.
          gone-next before after c.args.number c.loop-seen.seen-index c.args.observations.now seen c.loop-seen-test.true (sym c.seen-item.is) taken
          c.take_out.ensures.gone a (c.loop-seen.invariant.gone a e);
    }

pub returns-clause-gone : goal.returns-clause-gone
returns-clause-gone c a e =
    gone-all (numbers_at c.loop-seen.places a) c.args.number c.args.observations.now c.loop-seen.seen-index a
    (let past = c.loop-seen-test.false in omega arith) (c.loop-seen.invariant.gone a e)
