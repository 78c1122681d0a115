use Rattle.std.proofs.Common.{◌≡◌, ℕ, ◌+◌, List, Result, sym, subst, ◌∙◌, arith}
use Rattle.std.proofs.lemmas.Grind.{common_steps}
use Rattle.remote_wire.specs.declared.answer.WireAnswer.{WireAnswer}
use Rattle.remote_wire.specs.declared.request.Base.{Base}
use Rattle.remote_wire.specs.declared.request.Request.TheVariants as request
use Rattle.docc_prepare.specs.Calls.{Call}
use Rattle.remote_calls.specs.Spelled.{bases_of}
use Rattle.remote_service.specs.declared.error.ServiceError.{ServiceError}
use Rattle.remote_service.specs.declared.service.Service.{Service}
use Rattle.remote_service.specs.Anew.{made_anew}
use Rattle.remote_service.specs.Malformed.{Meaning}
use Rattle.remote_service.specs.Serving.{AreSame, Serves, Responds}
use Rattle.remote_service.specs.code.Told.{settled, ended}
use Rattle.remote_service.proofs.Handed.{made-parts, made-as, same-named, can-append}
use Rattle.remote_service.proofs.Meant.{append-responds, append-serves}
use Rattle.remote_service.proofs.Answering.{handed}
use Rattle.remote_service.proofs.service.Service.append.Goals as goal

-- what was made anew may be appended
pub append-outcome-requires : goal.append-outcome-requires
append-outcome-requires g c =
    can-append c.args.self.now c.client.result c.shards.result c.args.body.now c.as_slice.result.now c.in_ok-ready.ready
    (made-parts c.args.self.now c.client.result c.shards.result c.args.body.now c.as_slice.result.now c.in_ok-ready.ready c.in_ok-ready.ensures)
    (g.B.Backend.known c.args.backend.now) c.requires.serves c.client.ensures c.shards.ensures.shards c.shards.ensures.in_range

-- by the one call
pub returns-clause-responds : goal.returns-clause-responds
returns-clause-responds g c =
    let s = c.args.self.now in
    let k = g.B.Backend.known c.args.backend.now in
    let ready = c.in_ok-ready.ready in
    let made = made-parts s c.client.result c.shards.result c.args.body.now c.as_slice.result.now ready c.in_ok-ready.ensures in
    let next : c.in-Some.next ≡ s.seq + 1 = grind (arith, common_steps, c.in-Some.ensures) in
    handed g.B.Backend.known g.B.Backend.goes s c.settle.new.self c.args.backend.now c.append-outcome.new.self
    (request.Append s.seq c.args.body.now c.args.named.now) (made_anew s k.client k.shards c.args.body.now c.args.named.now) ready c.settle.result
    (made-as s c.args.body.now ready c.client.ensures c.shards.ensures.shards c.as_slice.ensures c.in_ok-ready.ensures)
    (subst (λ (r : Result WireAnswer ServiceError). Responds g.B.Backend.known g.B.Backend.goes s c.args.backend.now
    (request.Append s.seq c.args.body.now c.args.named.now) (Meaning.calling (Call.append ready)) r c.settle.new.self c.append-outcome.new.self)
    (sym c.settle.ensures.told)
    (subst (λ (t : Service). Responds g.B.Backend.known g.B.Backend.goes s c.args.backend.now
    (request.Append s.seq c.args.body.now c.args.named.now) (Meaning.calling (Call.append ready)) (settled c.seen.result c.append-outcome.result) t c.append-outcome.new.self)
    (sym (subst (λ (n : ℕ). c.settle.new.self ≡ ended s n c.append-outcome.result) next c.settle.ensures.ended))
    (append-responds g.B.Backend.known g.B.Backend.goes s c.args.backend.now c.append-outcome.new.self c.requires.serves ready c.args.body.now
    c.args.named.now
    (can-append s c.client.result c.shards.result c.args.body.now c.as_slice.result.now ready made k c.requires.serves c.client.ensures
    c.shards.ensures.shards c.shards.ensures.in_range) (
      made.seq_is,
      made.body_text,
      subst (λ (xs : List Base). AreSame xs (bases_of ready.based)) c.as_slice.ensures
          (same-named s c.client.result c.shards.result c.args.body.now c.as_slice.result.now ready made),
    )
    c.append-outcome.result c.seen.result c.seen.ensures.seen c.append-outcome.ensures.goes)))

-- and it goes on serving
pub returns-clause-serves : goal.returns-clause-serves
returns-clause-serves g c =
    let s = c.args.self.now in
    let k = g.B.Backend.known c.args.backend.now in
    let ready = c.in_ok-ready.ready in
    let made = made-parts s c.client.result c.shards.result c.args.body.now c.as_slice.result.now ready c.in_ok-ready.ensures in
    let next : c.in-Some.next ≡ s.seq + 1 = grind (arith, common_steps, c.in-Some.ensures) in
    subst (λ (t : Service). Serves t (g.B.Backend.known c.append-outcome.new.self))
    (sym (subst (λ (n : ℕ). c.settle.new.self ≡ ended s n c.append-outcome.result) next c.settle.ensures.ended))
    (append-serves g.B.Backend.known g.B.Backend.goes s c.args.backend.now c.append-outcome.new.self c.requires.serves ready c.args.body.now
    c.args.named.now
    (can-append s c.client.result c.shards.result c.args.body.now c.as_slice.result.now ready made k c.requires.serves c.client.ensures
    c.shards.ensures.shards c.shards.ensures.in_range) (
      made.seq_is,
      made.body_text,
      subst (λ (xs : List Base). AreSame xs (bases_of ready.based)) c.as_slice.ensures
          (same-named s c.client.result c.shards.result c.args.body.now c.as_slice.result.now ready made),
    )
    c.append-outcome.result (made.client_is ∙ c.client.ensures) c.append-outcome.ensures.goes)
