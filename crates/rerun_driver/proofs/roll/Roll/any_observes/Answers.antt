use Rattle.std.proofs.Common.{ap, ◌∙◌}
use Rattle.std.specs.List.{list_any}
use Rattle.rerun_driver.specs.Watches.{is_observed, is_observed_by}
use Rattle.rerun_driver.specs.declared.watch.Watch.{Watch}
use Rattle.rerun_driver.specs.code.Rolls.{Rolled}
use Rattle.rerun_driver.proofs.Shown.{any-shown}
use Rattle.rerun_driver.proofs.roll.Roll.any_observes.Goals as goal

pub returns : goal.returns
returns c =
    let address = c.args.address.now in
    c.any_observes.ensures
    ∙ ap (list_any (λ (watch : Watch). is_observed_by address watch.observations)) (c.as_slice.ensures ∙ c.values-watches.ensures.rest)
    ∙ any-shown address c.self.inside.watches.entries
    ∙ ap (λ (roll : Rolled). is_observed roll.1 address) c.self.view_is
