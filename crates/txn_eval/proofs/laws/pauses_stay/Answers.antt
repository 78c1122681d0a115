use Rattle.txn_eval.proofs.MoreKnown.{pauses_stay}
use Rattle.txn_eval.proofs.laws.pauses_stay.Goals as goal

pub returns : goal.returns
returns c = pauses_stay
