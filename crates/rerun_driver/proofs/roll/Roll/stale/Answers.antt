use Rattle.std.proofs.Common.{◌≡◌, ◌++◌, ℕ, List, ap, sym, subst, ◌∙◌}
use Rattle.std.proofs.lemmas.List.{append-nil}
use Rattle.std.proofs.Math.ListN.{drop_of_length-le}
use Rattle.rerun_driver.specs.Watches.{bodies_of, stale_of}
use Rattle.rerun_driver.specs.code.Rolls.{Rolled, bodies_in}
use Rattle.rerun_driver.proofs.Listing.{stale-bodies}
use Rattle.rerun_driver.proofs.roll.Roll.stale.Goals as goal

-- no number is left
pub returns : goal.returns
returns c =
    let numbers = c.as_slice-numbers.result.now in
    let found = bodies_of c.loop-number.list.items in
    let inside = c.self.inside in
    let kept = inside.watches.entries in
    sym (append-nil found)
    ∙ ap (λ (ns : List ℕ). found ++ bodies_in c.args.self.now.0 c.args.self.now.1 ns) (sym (drop_of_length-le numbers c.loop-number-test.false))
    ∙ c.loop-number.invariant
    ∙ ap (λ (roll : Rolled). bodies_in roll.0 roll.1 numbers) (sym c.self.view_is)
    ∙ ap (bodies_in inside.order.0 _) (c.as_slice-numbers.ensures.numbers ∙ c.self.invariant.listed)
    ∙ stale-bodies inside.order.0 kept c.self.invariant.rising c.self.invariant.as_many
    ∙ ap (λ (roll : Rolled). stale_of roll.1) c.self.view_is
