use Rattle.txn_lang.proofs.Replay.{deltas_leave}
use Rattle.txn_lang.proofs.laws.deltas_leave_what_operations_leave.Goals as goal

pub returns : goal.returns
returns c = deltas_leave
