use Rattle.std.proofs.Common.{ℕ, [], Option, Vec, Global, sym, ap, ◌∙◌}
use Rattle.std.specs.Option.{option_map_or}
use Rattle.rerun_driver.specs.declared.watch.Watch.{Watch}
use Rattle.rerun_driver.specs.code.Rolls.{Rolled, seen_by}
use Rattle.rerun_driver.proofs.Rolls.{seen-found}
use Rattle.rerun_driver.proofs.roll.Roll.observations.Goals as goal

pub returns-in_default : goal.returns-in_default
returns-in_default c =
    seen-found c.self.inside.order.0 c.self.inside.watches.entries c.args.number _ (sym c.in_default.ensures)
    ∙ ap (λ (roll : Rolled). seen_by roll c.args.number) c.self.view_is

pub returns-in-Some-get_index : goal.returns-in-Some-get_index
returns-in-Some-get_index c =
    let kept = c.self.inside.watches.entries in
    c.as_slice.ensures
    ∙ ap (λ (o : Option (Vec ℕ Global × Watch)). option_map_or (λ entry. entry.1.observations) o []) c.in-Some-get_index.ensures.entry
    ∙ seen-found c.self.inside.order.0 kept c.args.number _ (sym c.in-Some.ensures)
    ∙ ap (λ (roll : Rolled). seen_by roll c.args.number) c.self.view_is

pub returns-in-None : goal.returns-in-None
returns-in-None c =
    let kept = c.self.inside.watches.entries in
    ap (λ (o : Option (Vec ℕ Global × Watch)). option_map_or (λ entry. entry.1.observations) o []) c.in-None.ensures.entry
    ∙ seen-found c.self.inside.order.0 kept c.args.number _ (sym c.in-Some.ensures)
    ∙ ap (λ (roll : Rolled). seen_by roll c.args.number) c.self.view_is
