use Rattle.std.proofs.Common.{ℕ, List, Err, sym, ap, ◌∙◌, subst}
use Rattle.remote_wire.specs.Requests.{request_in}
use Rattle.remote_calls.specs.Calling.{CanAsk}
use Rattle.remote_service.specs.Serving.{Answered}
use Rattle.remote_direct.specs.Directing.{Beside, known_beside, does_beside}
use Rattle.remote_direct.specs.code.Telling.{ReadsBack}
use Rattle.remote_direct.proofs.Directed.{is-told, never-refused, told-replied, told-tells, told-stopped, failed-replied, failed-tells, failed-stopped}
use Rattle.remote_direct.proofs.direct.DirectCaller.call.Goals as goal

-- what is told is an answer to what was asked
pub read_back-requires : goal.read_back-requires
read_back-requires g c =
    is-told g.B.Backend.known g.B.Backend.goes c.self.inside.service c.answer.new.self c.self.inside.backend c.answer.new.backend c.self.invariant
    c.args.request.now c.as_slice-bytes.result.now (ap request_in c.as_slice-bytes.ensures ∙ c.in-Ok.ensures.again) c.as_slice.result.now
    (subst (Answered g.B.Backend.known g.B.Backend.goes c.self.inside.service c.self.inside.backend c.as_slice-bytes.result.now c.answer.new.self
    c.answer.new.backend) (sym c.as_slice.ensures) c.in-Ok-answer.ensures.answered)

-- it is the backend's own step
pub returns-in-Ok-answer-clause-replied : goal.returns-in-Ok-answer-clause-replied
returns-in-Ok-answer-clause-replied g c = rw (← c.self.view_is)
    (told-replied g.B.Backend.known g.B.Backend.goes c.self.inside.service c.answer.new.self c.self.inside.backend c.answer.new.backend
    c.self.invariant c.args.request.now c.as_slice-bytes.result.now (ap request_in c.as_slice-bytes.ensures ∙ c.in-Ok.ensures.again)
    c.in-Ok-answer.told c.read_back.result c.in-Ok-answer.ensures.answered
    (subst (λ (xs : List ℕ). ReadsBack c.args.request.now xs c.read_back.result) c.as_slice.ensures c.read_back.ensures))

pub returns-in-Ok-answer-clause-asked : goal.returns-in-Ok-answer-clause-asked
returns-in-Ok-answer-clause-asked g c = rw (← c.self.view_is)
    (told-stopped g.B.Backend.known g.B.Backend.goes c.self.inside.service c.answer.new.self c.self.inside.backend c.answer.new.backend
    c.self.invariant c.args.request.now c.as_slice-bytes.result.now (ap request_in c.as_slice-bytes.ensures ∙ c.in-Ok.ensures.again)
    (c.as_slice-bytes.ensures ∙ c.in-Ok.ensures.written) c.in-Ok-answer.told c.read_back.result c.in-Ok-answer.ensures.answered
    (subst (λ (xs : List ℕ). ReadsBack c.args.request.now xs c.read_back.result) c.as_slice.ensures c.read_back.ensures))

pub invariant_of-self : goal.invariant_of-self
invariant_of-self g c = record {
  serves = c.answer.ensures.serves;
  tells = told-tells g.B.Backend.known g.B.Backend.goes c.self.inside.service c.answer.new.self c.self.inside.backend c.answer.new.backend
      c.self.invariant c.args.request.now c.as_slice-bytes.result.now (ap request_in c.as_slice-bytes.ensures ∙ c.in-Ok.ensures.again)
      c.in-Ok-answer.told c.in-Ok-answer.ensures.answered;
}

-- nothing that may be asked is malformed
pub error_of-requires : goal.error_of-requires
error_of-requires g c =
    never-refused g.B.Backend.known g.B.Backend.goes c.self.inside.service c.answer.new.self c.self.inside.backend c.answer.new.backend
    c.self.invariant c.args.request.now c.as_slice-bytes.result.now (ap request_in c.as_slice-bytes.ensures ∙ c.in-Ok.ensures.again) c.in-Err.error
    (subst (λ (d : Beside g.row.B.Denot). CanAsk (known_beside g.B.Backend.known d) c.args.request.now) (sym c.self.view_is) c.requires)
    c.in-Err.ensures.refused

-- what failed has counted its fault, if it failed by one
pub returns-clause-replied : goal.returns-clause-replied
returns-clause-replied g c = rw (← c.self.view_is)
    (failed-replied g.B.Backend.known g.B.Backend.goes c.self.inside.service c.answer.new.self c.self.inside.backend c.answer.new.backend
    c.self.invariant c.args.request.now c.as_slice-bytes.result.now (ap request_in c.as_slice-bytes.ensures ∙ c.in-Ok.ensures.again) c.in-Err.error
    c.error_of.result c.error_of.ensures c.in-Err.ensures.failed c.in-Err.ensures.stalled)

pub returns-clause-asked : goal.returns-clause-asked
returns-clause-asked g c =
    subst (λ (d : Beside g.row.B.Denot). does_beside g.B.Backend.known g.B.Backend.goes d c.args.request.now (Err c.error_of.result)
    (record { backend = c.answer.new.backend; service = c.answer.new.self })) c.self.view_is
    (failed-stopped g.B.Backend.known g.B.Backend.goes c.self.inside.service c.answer.new.self c.self.inside.backend c.answer.new.backend
    c.self.invariant c.args.request.now c.as_slice-bytes.result.now (ap request_in c.as_slice-bytes.ensures ∙ c.in-Ok.ensures.again)
    (c.as_slice-bytes.ensures ∙ c.in-Ok.ensures.written) c.in-Err.error c.error_of.result c.error_of.ensures c.in-Err.ensures.failed
    c.in-Err.ensures.stalled)

pub invariant_of-self-2 : goal.invariant_of-self-2
invariant_of-self-2 g c = record {
  serves = c.answer.ensures.serves;
  tells = failed-tells g.B.Backend.known g.B.Backend.goes c.self.inside.service c.answer.new.self c.self.inside.backend c.answer.new.backend
      c.self.invariant c.args.request.now c.as_slice-bytes.result.now (ap request_in c.as_slice-bytes.ensures ∙ c.in-Ok.ensures.again) c.in-Err.error
      c.error_of.result c.error_of.ensures c.in-Err.ensures.failed c.in-Err.ensures.stalled;
}
