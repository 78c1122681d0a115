use Rattle.plain_data.specs.Texts.{text_cmp}
use Rattle.plain_data.proofs.TextMaps.{empty-from_sorted}
use Rattle.plain_data.proofs.text_map.TextMap.new.Goals as goal

pub invariant_of-result : goal.invariant_of-result
invariant_of-result g c = rw c.new.ensures tt

pub returns : goal.returns
returns g c = (empty-from_sorted text_cmp _ (invariant_of-result g c)).0 c.new.ensures
