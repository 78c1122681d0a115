use Rattle.docc_prepare.specs.Calls.{Call, value_answered}
use Rattle.thread_tests.proofs.FailedCalls.{passed_answered, may_call}
use Rattle.thread_tests.proofs.backends.broken.BrokenBackend.read_at.Goals as goal

-- what is owed to the pass
pub read_at-requires-clause-seen : goal.read_at-requires-clause-seen
read_at-requires-clause-seen g c =
    (may_call c.args.self.now.served.pass c.fails.new.self.served.pass c.args.self.now.faults c.fails.new.self.faults (Call.read_at c.args.address.now c.args.number)
    (c.fails.ensures.same c.if-fails.false) (c.fails.ensures.whole c.if-fails.false) (c.requires.short, c.requires.seen)).1

-- a call that fails is within the clause of every call
pub returns-then-fails-clause-goes : goal.returns-then-fails-clause-goes
returns-then-fails-clause-goes g c = record { step = tt; answered = c.fails.ensures.failed c.if-fails.true (Call.read_at c.args.address.now c.args.number) }

-- and any other is the pass's own
pub returns-clause-goes : goal.returns-clause-goes
returns-clause-goes g c = record {
  step = tt;
  answered = passed_answered c.args.self.now.served.pass c.fails.new.self.served.pass c.read_at.new.self.pass c.args.self.now.faults c.fails.new.self.faults
      (Call.read_at c.args.address.now c.args.number) (value_answered c.read_at.result) (c.fails.ensures.same c.if-fails.false) (c.fails.ensures.whole c.if-fails.false) c.read_at.ensures.goes.answered;
}
