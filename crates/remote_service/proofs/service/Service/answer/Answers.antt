use Rattle.remote_service.proofs.Answering.{answered, failed-bytes, stalled-bytes, lacks-asked}
use Rattle.remote_service.proofs.service.Service.answer.Goals as goal

-- what was answered is told
pub returns-clause-answered : goal.returns-clause-answered
returns-clause-answered g c = answered g.B.Backend.known g.B.Backend.goes c.args.self.now c.respond-outcome.new.self c.args.backend.now
    c.respond-outcome.new.backend c.args.request.now c.in-Ok.asked c.in-Ok.ensures.decoded c.respond-outcome.result c.spelled.result
    c.respond-outcome.ensures.responds c.spelled.ensures

-- the store has failed
pub returns-clause-failed : goal.returns-clause-failed
returns-clause-failed g c = failed-bytes g.B.Backend.known g.B.Backend.goes c.args.self.now c.respond-outcome.new.self c.args.backend.now
    c.respond-outcome.new.backend c.args.request.now c.in-Ok.asked c.in-Ok.ensures.decoded c.respond-outcome.result c.spelled.result
    c.respond-outcome.ensures.responds c.spelled.ensures

-- memory was wanted
pub returns-clause-stalled : goal.returns-clause-stalled
returns-clause-stalled g c = stalled-bytes g.B.Backend.known g.B.Backend.goes c.args.self.now c.respond-outcome.new.self c.args.backend.now
    c.respond-outcome.new.backend c.args.request.now c.in-Ok.asked c.in-Ok.ensures.decoded c.respond-outcome.result c.spelled.result
    c.respond-outcome.ensures.responds c.spelled.ensures

-- and it is asked for
pub returns-clause-memory : goal.returns-clause-memory
returns-clause-memory g c = lacks-asked g.B.Backend.known g.B.Backend.goes c.args.self.now c.respond-outcome.new.self c.args.backend.now
    c.respond-outcome.new.backend c.args.request.now c.in-Ok.asked c.in-Ok.ensures.decoded c.respond-outcome.result c.spelled.result
    c.respond-outcome.ensures.responds c.spelled.ensures
