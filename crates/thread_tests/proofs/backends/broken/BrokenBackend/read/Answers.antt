use Rattle.docc_prepare.specs.Calls.{Call, snap_answered}
use Rattle.thread_tests.proofs.FailedCalls.{passed_answered}
use Rattle.thread_tests.proofs.backends.broken.BrokenBackend.read.Goals as goal

-- a call that fails is within the clause of every call
pub returns-then-fails-clause-goes : goal.returns-then-fails-clause-goes
returns-then-fails-clause-goes g c = record { step = tt; answered = c.fails.ensures.failed c.if-fails.true (Call.read c.args.address.now) }

-- and any other is the pass's own
pub returns-clause-goes : goal.returns-clause-goes
returns-clause-goes g c = record {
  step = tt;
  answered = passed_answered c.args.self.now.served.pass c.fails.new.self.served.pass c.read.new.self.pass c.args.self.now.faults c.fails.new.self.faults
      (Call.read c.args.address.now) (snap_answered c.read.result) (c.fails.ensures.same c.if-fails.false) (c.fails.ensures.whole c.if-fails.false) c.read.ensures.goes.answered;
}
