use Rattle.std.proofs.Common.{ℕ, List, ap, ◌∙◌}
use Rattle.std.specs.List.{list_any}
use Rattle.rerun_driver.specs.Watches.{Watches, is_observed, is_observed_by}
use Rattle.rerun_driver.specs.code.Rolls.{seen_by}
use Rattle.rerun_driver.proofs.Placed.{observed-there}
use Rattle.rerun_driver.proofs.driver.Driver.observes.Goals as goal

pub returns-then-self : goal.returns-then-self
returns-then-self c =
    let roll = c.self.inside.roll in
    let a = c.args.address.now in
    c.any_observes.ensures
    ∙ ap (λ (xs : List ℕ). list_any (λ n. is_observed_by a (seen_by roll n)) xs) c.at.ensures
    ∙ observed-there a c.self.inside.places roll c.self.invariant.ordered (c.self.invariant.covers c.if-self.true)
    ∙ ap (λ (ws : Watches). is_observed ws a) c.self.view_is
