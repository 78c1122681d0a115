use Rattle.docc_prepare.specs.Calls.{number_answered}
use Rattle.thread_tests.proofs.FailedCalls.{failed_answered}
use Rattle.thread_tests.proofs.backends.broken.Broken.fails.Goals as goal

-- the store has looked at the journal's length, and the fault is counted
pub returns-clause-failed : goal.returns-clause-failed
returns-clause-failed g c = λ yes call. failed_answered c.args.self.now.served.pass c.refresh.new.self.pass c.args.self.now.faults c.add_one.new.self
    (number_answered c.refresh.result) c.refresh.ensures.goes.answered c.add_one.ensures call
