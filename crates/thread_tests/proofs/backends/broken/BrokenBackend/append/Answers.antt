use Rattle.docc_prepare.specs.Calls.{Call, commit_answered}
use Rattle.thread_tests.proofs.FailedCalls.{passed_answered, may_call}
use Rattle.thread_tests.proofs.backends.broken.BrokenBackend.append.Goals as goal

-- what is owed to the pass
pub append-requires : goal.append-requires
append-requires g c =
    may_call c.args.self.now.served.pass c.fails.new.self.served.pass c.args.self.now.faults c.fails.new.self.faults (Call.append c.args.ready.now)
    (c.fails.ensures.same c.if-fails.false) (c.fails.ensures.whole c.if-fails.false) c.requires

-- a call that fails is within the clause of every call
pub returns-then-fails-clause-goes : goal.returns-then-fails-clause-goes
returns-then-fails-clause-goes g c = record { step = tt; answered = c.fails.ensures.failed c.if-fails.true (Call.append c.args.ready.now) }

-- and any other is the pass's own
pub returns-clause-goes : goal.returns-clause-goes
returns-clause-goes g c = record {
  step = tt;
  answered = passed_answered c.args.self.now.served.pass c.fails.new.self.served.pass c.append.new.self.pass c.args.self.now.faults c.fails.new.self.faults
      (Call.append c.args.ready.now) (commit_answered c.append.result) (c.fails.ensures.same c.if-fails.false) (c.fails.ensures.whole c.if-fails.false) c.append.ensures.goes.answered;
}
