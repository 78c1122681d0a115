use Rattle.edge_slab.proofs.Orders.{drops_keep_order}
use Rattle.edge_slab.proofs.laws.drops_keep_order.Goals as goal

pub returns : goal.returns
returns c = drops_keep_order
