use Rattle.txn_eval.proofs.Pauses.{first_is}
use Rattle.txn_eval.proofs.pause.Pause.begun.Goals as goal

pub returns : goal.returns
returns c = λ stmts snaps. rw (c.new.ensures, c.new-2.ensures, c.new-3.ensures, c.new-4.ensures, c.new-5.ensures) (first_is stmts snaps)
