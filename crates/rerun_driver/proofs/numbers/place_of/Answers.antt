use Rattle.std.proofs.Common.{◌∙◌}
use Rattle.rerun_driver.proofs.Rising.{place-searched}
use Rattle.rerun_driver.proofs.numbers.place_of.Goals as goal

pub returns : goal.returns
returns c = c.ok.ensures.value ∙ place-searched c.args.items.now c.args.number c.binary_search.result c.requires c.binary_search.ensures.position
