use Rattle.std.proofs.Common.{[], cond, refl, sym, ap, subst, ◌∙◌}
use Rattle.std.proofs.lemmas.Bool.{eq-eqb}
use Rattle.rerun_driver.specs.code.Rolls.{Rolled, IsPlaced, seen_by}
use Rattle.rerun_driver.proofs.Placed.{placed-same, all-stand, others-taken, others-stand, exact-taken}
use Rattle.rerun_driver.proofs.driver.Driver.unwatch.Goals as goal

pub invariant_of-self : goal.invariant_of-self
invariant_of-self c =
    let inside = c.self.inside in
    subst (λ (roll : Rolled). IsPlaced inside.is_placed inside.places roll) (sym c.in_default.ensures.none) c.self.invariant

pub invariant_of-self-2 : goal.invariant_of-self-2
invariant_of-self-2 c =
    let inside = c.self.inside in
    let old = inside.roll in
    let new = c.remove.new.self in
    let made = c.in-Some.made in
    let seen = c.in-Some.ensures.seen in
    let none = seen made ∙ ap (λ b. cond b [] (seen_by old made)) (eq-eqb made made refl) in
    placed-same inside.is_placed c.take_all.new.places c.sweep_all.new.places new c.sweep_all.ensures
    (record {
      ordered = c.remove.ensures.order;
      exact = exact-taken made inside.places c.take_all.new.places old new [] c.as_slice.result.now seen (c.as_slice.ensures ∙ c.in-Some.ensures.before)
          c.take_all.ensures.fewer c.take_all.ensures.gone c.self.invariant.exact;
      covers = λ e.
          all-stand made c.take_all.new.places new none
          (others-taken made inside.places c.take_all.new.places new c.take_all.ensures.others
          (others-stand made inside.places old new [] seen (c.self.invariant.covers e)));
    })
