use Rattle.std.proofs.Common.{◌∙◌, sym, ap}
use Rattle.std.specs.Option.{option_copied}
use Rattle.journal_core.proofs.Segmented.{end-of_last}
use Rattle.journal_core.proofs.walk.end_of.Goals as goal

pub returns-in-Some : goal.returns-in-Some
returns-in-Some c =
    let there = sym c.last.ensures.value ∙ ap option_copied c.in-Some.is in
    rw (← c.as_slice.ensures) (sym (end-of_last c.as_slice.result.now c.in-Some.change.now there))
