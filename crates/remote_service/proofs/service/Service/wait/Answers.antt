use Rattle.docc_prepare.specs.Calls.{Call, done_answered}
use Rattle.remote_service.proofs.Standing.{serves-on}
use Rattle.remote_service.proofs.service.Service.wait.Goals as goal

-- a wait takes nothing of what is kept
pub returns-clause-serves : goal.returns-clause-serves
returns-clause-serves g c =
    let goes = c.wait-outcome.ensures.goes in
    serves-on c.args.self.now (g.B.Backend.known c.args.backend.now) (g.B.Backend.known c.wait-outcome.new.self) Call.wait (done_answered c.wait-outcome.result)
    goes.answered goes.answered.keeps (λ old new same. same) c.requires.serves
