use Rattle.docc_prepare.specs.Calls.{Call, front_answered}
use Rattle.thread_tests.proofs.FailedCalls.{passed_answered, may_call}
use Rattle.thread_tests.proofs.backends.broken.BrokenBackend.prepare.Goals as goal

-- what is owed to the pass
pub prepare-requires : goal.prepare-requires
prepare-requires g c =
    may_call c.args.self.now.served.pass c.fails.new.self.served.pass c.args.self.now.faults c.fails.new.self.faults (Call.prepare c.args.shard c.args.based.now)
    (c.fails.ensures.same c.if-fails.false) (c.fails.ensures.whole c.if-fails.false) c.requires

-- a call that fails is within the clause of every call
pub returns-then-fails-clause-goes : goal.returns-then-fails-clause-goes
returns-then-fails-clause-goes g c = record { step = tt; answered = c.fails.ensures.failed c.if-fails.true (Call.prepare c.args.shard c.args.based.now) }

-- and any other is the pass's own
pub returns-clause-goes : goal.returns-clause-goes
returns-clause-goes g c = record {
  step = tt;
  answered = passed_answered c.args.self.now.served.pass c.fails.new.self.served.pass c.prepare.new.self.pass c.args.self.now.faults c.fails.new.self.faults
      (Call.prepare c.args.shard c.args.based.now) (front_answered c.prepare.result) (c.fails.ensures.same c.if-fails.false) (c.fails.ensures.whole c.if-fails.false) c.prepare.ensures.goes.answered;
}
