use Rattle.docc_prepare.specs.Calls.{Call, done_answered}
use Rattle.thread_tests.proofs.FailedCalls.{passed_answered}
use Rattle.thread_tests.proofs.backends.broken.BrokenBackend.unsubscribe.Goals as goal

-- a call that fails is within the clause of every call
pub returns-then-fails-clause-goes : goal.returns-then-fails-clause-goes
returns-then-fails-clause-goes g c = record { step = tt; answered = c.fails.ensures.failed c.if-fails.true (Call.unsubscribe c.args.address.now) }

-- and any other is the pass's own
pub returns-clause-goes : goal.returns-clause-goes
returns-clause-goes g c = record {
  step = tt;
  answered = passed_answered c.args.self.now.served.pass c.fails.new.self.served.pass c.unsubscribe.new.self.pass c.args.self.now.faults c.fails.new.self.faults
      (Call.unsubscribe c.args.address.now) (done_answered c.unsubscribe.result) (c.fails.ensures.same c.if-fails.false) (c.fails.ensures.whole c.if-fails.false) c.unsubscribe.ensures.goes.answered;
}
