use Rattle.std.proofs.Common.{◌∙◌}
use Rattle.std.specs.FinMap as map
use Rattle.plain_data.specs.Texts.{text_cmp}
use Rattle.plain_data.proofs.TextMaps.{sorted-from_rising}
use Rattle.plain_data.proofs.text_map.TextMap.from_vec.Goals as goal

pub invariant_of-result : goal.invariant_of-result
invariant_of-result g c = rw c.from_vec.ensures (sorted-from_rising text_cmp _ c.requires)

pub returns : goal.returns
returns g c = map.entries-from_sorted text_cmp _ (invariant_of-result g c) ∙ c.from_vec.ensures
