use Rattle.std.proofs.Common.{ℕ, Some, Option, option_map, Vec, Global, sym, ap, ◌∙◌}
use Rattle.plain_data.specs.Texts.{Bytes}
use Rattle.rerun_driver.specs.declared.watch.Watch.{Watch}
use Rattle.rerun_driver.specs.code.Rolls.{Rolled, body_by}
use Rattle.rerun_driver.proofs.Listing.{body-found}
use Rattle.rerun_driver.proofs.roll.Roll.watch_at.Goals as goal

pub returns-in_default : goal.returns-in_default
returns-in_default c =
    body-found c.self.inside.order.0 c.self.inside.watches.entries c.args.number _ (sym c.in_default.ensures)
    ∙ ap (λ (roll : Rolled). body_by roll c.args.number) c.self.view_is

pub returns-in-Some-get_index : goal.returns-in-Some-get_index
returns-in-Some-get_index c =
    let kept = c.self.inside.watches.entries in
    ap (λ (name : Bytes). Some (name, c.in-Some-get_index.watch.now.body)) c.as_slice.ensures.value
    ∙ ap (option_map (λ (entry : Vec ℕ Global × Watch). (entry.0.items, entry.1.body))) c.in-Some-get_index.ensures.entry
    ∙ body-found c.self.inside.order.0 kept c.args.number _ (sym c.in-Some.ensures)
    ∙ ap (λ (roll : Rolled). body_by roll c.args.number) c.self.view_is

pub returns-in-None : goal.returns-in-None
returns-in-None c =
    let kept = c.self.inside.watches.entries in
    ap (option_map (λ (entry : Vec ℕ Global × Watch). (entry.0.items, entry.1.body))) c.in-None.ensures.entry
    ∙ body-found c.self.inside.order.0 kept c.args.number _ (sym c.in-Some.ensures)
    ∙ ap (λ (roll : Rolled). body_by roll c.args.number) c.self.view_is
