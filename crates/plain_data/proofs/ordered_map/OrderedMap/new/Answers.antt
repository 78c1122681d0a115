use Rattle.plain_data.proofs.Entries.{sorted-none}
use Rattle.plain_data.proofs.ordered_map.OrderedMap.new.Goals as goal

pub invariant_of-result : goal.invariant_of-result
invariant_of-result g c = sorted-none g.K.Ord.cmp c.new.result.items c.new.ensures.items
