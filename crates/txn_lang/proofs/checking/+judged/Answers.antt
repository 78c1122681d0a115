use Rattle.txn_lang.proofs.Typing.{block_left, turn_left}
use Rattle.txn_lang.proofs.checking.+judged.Goals as goal

pub block-returns : goal.block-returns
block-returns t c = block_left _ _ _ _ _ c.in_ok-in_order.ensures c.len-count.ensures c.in_ok-truncate.ensures.ok

pub turn-returns : goal.turn-returns
turn-returns t c = turn_left _ _ _ _ _ _ _ c.in_ok-bind.ensures.ok c.in_ok-in_order.ensures c.len-count.ensures c.in_ok-truncate.ensures.ok
