use Rattle.edge_slab.proofs.Orders.{unlinks_keep_order}
use Rattle.edge_slab.proofs.laws.unlinks_keep_order.Goals as goal

pub returns : goal.returns
returns c = unlinks_keep_order
