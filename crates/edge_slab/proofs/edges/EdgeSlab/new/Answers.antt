use Rattle.std.proofs.Common.{[]}
use Rattle.edge_slab.proofs.Walking.{subscribers-across, places-across}
use Rattle.edge_slab.proofs.Keeping.{none_kept}
use Rattle.edge_slab.proofs.edges.EdgeSlab.new.Goals as goal

pub invariant_of-result : goal.invariant_of-result
invariant_of-result c = ([], none_kept c.new.result c.new-2.result c.new.ensures c.new-2.ensures.empty)

pub returns-clause-places : goal.returns-clause-places
returns-clause-places c place = subscribers-across c.new.result [] c.new.ensures place

pub returns-clause-subscribers : goal.returns-clause-subscribers
returns-clause-subscribers c subscriber = places-across c.new.result [] c.new.ensures subscriber
