use Rattle.std.proofs.Common.{◌≡◌, ℕ, List, is_some, sym, ap, subst, ◌∙◌}
use Rattle.std.proofs.lemmas.Bool.{OnTrue_from}
use Rattle.rerun_driver.specs.code.Numbers.{Roomy, place_in, with_number}
use Rattle.rerun_driver.proofs.Rising.{with-found}
use Rattle.rerun_driver.proofs.numbers.Numbers.has.Goals as goal

pub returns : goal.returns
returns c =
    let n = c.args.number in
    let set = c.args.self.now in
    OnTrue_from c.is_some.result (with_number set.0 n ≡ set.0)
    (λ e. subst (λ (s : Roomy). with_number s.0 n ≡ s.0) c.self.view_is
    (with-found c.self.inside.items.items n c.self.invariant
    (sym (c.is_some.ensures ∙ ap is_some (c.place_of.ensures ∙ ap (λ (xs : List ℕ). place_in xs n) c.as_slice.ensures.value)) ∙ e)))
