use Rattle.client_cache.specs.Cached.{held}
use Rattle.txn_lang.specs.Few.{AreReadInTurn}
use Rattle.txn_lang.specs.Observed.{Extends}
use Rattle.txn_eval.specs.Pausing.{IsPauseOf}
use Rattle.txn_eval.specs.Running.{values_of}
use Rattle.rerun_driver.proofs.rerun.run_taking.Given as goal

-- what was taken are values of the cache, each of which the run on those before it needed; and it has come to its pause on them
abbrev pub invariant-loop : goal.invariant-loop
invariant-loop l = record {
  values : Extends (values_of l.snaps) (held l.fn.cache);
  turn : AreReadInTurn l.body.body l.counter (values_of l.snaps);
  paused : IsPauseOf l.body.body.stmts l.snaps l.pause;
}
