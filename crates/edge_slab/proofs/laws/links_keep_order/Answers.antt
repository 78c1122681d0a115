use Rattle.edge_slab.proofs.Orders.{links_keep_order}
use Rattle.edge_slab.proofs.laws.links_keep_order.Goals as goal

pub returns : goal.returns
returns c = links_keep_order
