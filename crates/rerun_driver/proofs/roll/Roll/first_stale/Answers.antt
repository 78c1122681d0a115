use Rattle.std.proofs.Common.{◌≡◌, Some, None, option_map, position, ap, sym, ◌∙◌}
use Rattle.std.specs.Map.{values_of}
use Rattle.plain_data.specs.Texts.{Bytes}
use Rattle.rerun_driver.specs.declared.watch.Watch.{Watch}
use Rattle.rerun_driver.specs.Watches.{first_stale}
use Rattle.rerun_driver.specs.code.Rolls.{Rolled}
use Rattle.rerun_driver.proofs.Shown.{as_shown, found_at}
use Rattle.rerun_driver.proofs.roll.Roll.first_stale.Goals as goal

pub returns-in_default : goal.returns-in_default
returns-in_default c =
    let kept = c.self.inside.watches.entries in
    let none : position (λ (watch : Watch). watch.stale) (values_of kept) ≡ None =
    sym (c.in_default.ensures ∙ ap (position (λ (watch : Watch). watch.stale)) (c.as_slice.ensures ∙ c.values-watches.ensures.rest)) in
    sym (found_at kept None none) ∙ ap (λ (roll : Rolled). first_stale roll.1) c.self.view_is

pub returns-in-Some-get_index : goal.returns-in-Some-get_index
returns-in-Some-get_index c =
    let kept = c.self.inside.watches.entries in
    let found : position (λ (watch : Watch). watch.stale) (values_of kept) ≡ Some c.in-Some.place =
    sym (c.in-Some.ensures ∙ ap (position (λ (watch : Watch). watch.stale)) (c.as_slice.ensures ∙ c.values-watches.ensures.rest)) in
    ap (λ (name : Bytes). Some (name, c.in-Some-get_index.watch.now)) c.as_slice-in-Some-get_index.ensures.value
    ∙ sym (found_at kept (Some c.in-Some.place) found ∙ ap (option_map as_shown) (sym c.in-Some-get_index.ensures.entry))
    ∙ ap (λ (roll : Rolled). first_stale roll.1) c.self.view_is

pub returns-in-None : goal.returns-in-None
returns-in-None c =
    let kept = c.self.inside.watches.entries in
    let found : position (λ (watch : Watch). watch.stale) (values_of kept) ≡ Some c.in-Some.place =
    sym (c.in-Some.ensures ∙ ap (position (λ (watch : Watch). watch.stale)) (c.as_slice.ensures ∙ c.values-watches.ensures.rest)) in
    sym (found_at kept (Some c.in-Some.place) found ∙ ap (option_map as_shown) (sym c.in-None.ensures.entry))
    ∙ ap (λ (roll : Rolled). first_stale roll.1) c.self.view_is
