use Rattle.std.proofs.Common.{◌≡◌, Result, Err, ap, sym, subst, ◌∙◌}
use Rattle.txn_grammar.specs.Characters.{Text}
use Rattle.remote_service.specs.declared.error.ServiceError.{ServiceError}
use Rattle.wire_server.specs.code.Serving.{Stop, Serves}
use Rattle.wire_server.proofs.Turned.{serves-answered, answered-short, serves-failed}
use Rattle.wire_server.proofs.serving.answer.Goals as goal

-- it is an answer
pub returns-in-Ok-clause-answers : goal.returns-in-Ok-clause-answers
returns-in-Ok-clause-answers g c =
    serves-answered g.B.Backend.known g.B.Backend.goes c.args.service.now c.args.backend.now c.args.request.now c.answer.new.self c.answer.new.backend
    c.in-Ok.reply c.in-Ok.ensures.answered

-- that fits a frame
pub returns-in-Ok-clause-short : goal.returns-in-Ok-clause-short
returns-in-Ok-clause-short g c =
    answered-short g.B.Backend.known g.B.Backend.goes c.args.service.now c.args.backend.now c.args.request.now c.answer.new.self c.answer.new.backend
    c.in-Ok.reply c.in-Ok.ensures.answered

-- or there is none
pub returns-in-Err-clause-answers : goal.returns-in-Err-clause-answers
returns-in-Err-clause-answers g c =
    let failed : ServiceError → Result Text ServiceError = λ e. Err e in
    subst (λ (e : Stop). Serves g.B.Backend.known g.B.Backend.goes (Err e) c.args.service.now c.args.backend.now c.args.request.now c.answer.new.self
    c.answer.new.backend) (sym c.stop_of.ensures)
    (serves-failed g.B.Backend.known g.B.Backend.goes c.args.service.now c.args.backend.now c.args.request.now c.answer.new.self c.answer.new.backend
    c.in-Err.error (λ is. c.answer.ensures.refused (c.in-Err.is ∙ ap failed is)) (λ is. c.answer.ensures.failed (c.in-Err.is ∙ ap failed is))
    (λ is. c.answer.ensures.stalled (c.in-Err.is ∙ ap failed is)))
