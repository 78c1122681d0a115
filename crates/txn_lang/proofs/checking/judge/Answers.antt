use Rattle.txn_lang.proofs.Typing.{judge_tells}
use Rattle.txn_lang.proofs.checking.judge.Goals as goal

pub returns : goal.returns
returns c = judge_tells c.args.body.now _ _ _ _ c.as_slice.ensures c.new-names.ensures c.in_order.ensures
