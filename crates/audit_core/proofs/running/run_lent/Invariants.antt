use Rattle.txn_lang.specs.Few.{AreReadInTurn}
use Rattle.txn_lang.specs.States.{State}
use Rattle.txn_eval.specs.Pausing.{IsPauseOf}
use Rattle.txn_eval.specs.Running.{values_of}
use Rattle.audit_core.specs.code.Running.{IsLent}
use Rattle.audit_core.proofs.running.run_lent.Given as goal

-- what was lent is still lent; the run on the values before each needed it; and it has come to its pause on them
abbrev pub invariant-loop : goal.invariant-loop
invariant-loop l = record {
  turn : AreReadInTurn l.body.body l.counter (values_of l.snaps);
  lent : (m : State) → IsLent m l.fn.state l.fn.snaps → IsLent m l.state l.snaps;
  paused : IsPauseOf l.body.body.stmts l.snaps l.pause;
}
