use Rattle.std.proofs.Common.{sym, ap, ◌∙◌}
use Rattle.std.specs.FinMap as map
use Rattle.plain_data.specs.Texts.{text_cmp}
use Rattle.plain_data.proofs.text_map.TextMap.into_vec.Goals as goal

pub returns-clause-pairs : goal.returns-clause-pairs
returns-clause-pairs g c = c.into_vec.ensures.pairs ∙ sym (map.entries-from_sorted text_cmp _ c.self.invariant) ∙ ap map.entries c.self.view_is
