use Rattle.std.proofs.Common.{true, ap, ◌∙◌}
use Rattle.std.proofs.lemmas.Bool.{OnTrue_at}
use Rattle.rerun_driver.specs.Watches.{is_observed_by}
use Rattle.rerun_driver.proofs.Placed.{placed-put, exact-put}
use Rattle.rerun_driver.proofs.placing.put_watch.Goals as goal

pub returns-then-is_placed : goal.returns-then-is_placed
returns-then-is_placed c =
    let is_put = c.put_all-is_put.result in
    placed-put true is_put c.args.places.now c.put_all-is_put.new.places c.args.roll.now c.args.made c.requires.order
    (exact-put c.args.places.now c.put_all-is_put.new.places c.args.roll.now c.observations.result.now c.args.made c.observations.ensures
    c.put_all-is_put.ensures.only c.requires.exact)
    (λ e. c.requires.others c.if-is_placed.true)
    (λ e. OnTrue_at e c.put_all-is_put.ensures.stays)
    (λ e a seen. OnTrue_at e c.put_all-is_put.ensures.put a (ap (is_observed_by a) c.observations.ensures ∙ seen))

pub returns-else-is_placed : goal.returns-else-is_placed
returns-else-is_placed c = record {
  ordered = c.requires.order;
  exact = exact-put c.args.places.now c.put_all-is_put.new.places c.args.roll.now c.observations.result.now c.args.made c.observations.ensures
      c.put_all-is_put.ensures.only c.requires.exact;
  covers = λ e. absurd (cc);
}
