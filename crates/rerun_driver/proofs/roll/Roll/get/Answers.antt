use Rattle.std.proofs.Common.{ap, sym, ◌∙◌}
use Rattle.std.specs.Map.{lookup}
use Rattle.std.specs.Str.{bytes_eq}
use Rattle.rerun_driver.specs.Watches.{watch_of}
use Rattle.rerun_driver.specs.code.Rolls.{Rolled}
use Rattle.rerun_driver.proofs.Shown.{lookup-shown}
use Rattle.rerun_driver.proofs.roll.Roll.get.Goals as goal

pub returns : goal.returns
returns c =
    let kept = c.self.inside.watches.entries in
    c.get.ensures.value
    ∙ ap (λ bytes. lookup (λ key. bytes_eq bytes key.items) kept) c.as_slice.ensures
    ∙ sym (lookup-shown c.args.name.now kept)
    ∙ ap (λ (roll : Rolled). watch_of roll.1 c.args.name.now) c.self.view_is
