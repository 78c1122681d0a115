use Rattle.std.proofs.Common.{ℕ, List, option_and_then, slice_get, ap, ◌∙◌}
use Rattle.rerun_driver.specs.code.Numbers.{place_in}
use Rattle.rerun_driver.proofs.Rolls.{first-place}
use Rattle.rerun_driver.proofs.roll.first_stale_place.Goals as goal

pub returns-in-Some : goal.returns-in-Some
returns-in-Some c =
    c.place_of.ensures
    ∙ ap (option_and_then (place_in c.args.order.now.0)) (c.in-Some.ensures ∙ ap (λ (xs : List ℕ). slice_get xs 0) c.requires.listed)
    ∙ first-place c.args.order.now.0 c.args.watches.now c.requires.rising c.requires.as_many

pub returns-in-None : goal.returns-in-None
returns-in-None c =
    ap (option_and_then (place_in c.args.order.now.0)) (c.in-None.ensures ∙ ap (λ (xs : List ℕ). slice_get xs 0) c.requires.listed)
    ∙ first-place c.args.order.now.0 c.args.watches.now c.requires.rising c.requires.as_many
