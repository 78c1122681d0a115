use Rattle.std.proofs.Common.{Bool, Option, Ok, refl, ap, subst, arith, ◌∙◌}
use Rattle.std.proofs.lemmas.Result.{err_from_is_err_and}
use Rattle.txn_grammar.specs.Characters.{Text}
use Rattle.diamond_server.specs.Promises.{sides}
use Rattle.wire_server.specs.code.Serving.{ReadsRequest, Turns}
use Rattle.wire_server.proofs.Asked.{first-is, serves-none, serves-more, ends-stopped, ends-whole, ends-over, ends-unanswered}
use Rattle.wire_server.proofs.serving.serve_requests.Goals as goal

-- nothing was read yet
pub loop-init : goal.loop-init
loop-init g c = record {
  served = serves-none g.B.Backend.known g.B.Backend.goes (first-is c.new-service.result c.new-service.ensures.snaps c.new-service.ensures.fronts
      c.new-service.ensures.seq);
  serves = c.new-service.ensures.serves _ c.requires.new;
  home = refl;
}

-- a turn stopped
pub returns-in_err-serve_request-clause-ends : goal.returns-in_err-serve_request-clause-ends
returns-in_err-serve_request-clause-ends g c =
    let p = err_from_is_err_and c.from_residual.result c.from_residual.ensures.1 in
    rw (p.1, p.2) (ends-stopped g.B.Backend.known g.B.Backend.goes c.loop.invariant.served _ _ _ _ (omega arith) c.in_err-serve_request.ensures.turns)

-- the link has ended
pub returns-then-not-branch-clause-ends : goal.returns-then-not-branch-clause-ends
returns-then-not-branch-clause-ends g c =
    let turn = subst (λ (b : Bool). Turns g.B.Backend.known g.B.Backend.goes (Ok b) c.loop.service c.loop.backend (sides g.K.Source g.K.Sink c.loop.link)
    c.serve_request.new.service c.serve_request.new.backend (sides g.K.Source g.K.Sink c.serve_request.new.link)) c.if-not-branch.true
    c.in_ok-serve_request.ensures.turns in
    ends-whole g.B.Backend.known g.B.Backend.goes c.loop.invariant.served _ _ _ (omega arith) turn.0 turn.1

-- a request was answered
pub loop-preserved : goal.loop-preserved
loop-preserved g c =
    let turn = subst (λ (b : Bool). Turns g.B.Backend.known g.B.Backend.goes (Ok b) c.loop.service c.loop.backend (sides g.K.Source g.K.Sink c.loop.link)
    c.serve_request.new.service c.serve_request.new.backend (sides g.K.Source g.K.Sink c.serve_request.new.link)) c.if-not-branch.false
    c.in_ok-serve_request.ensures.turns in record {
      served = serves-more g.B.Backend.known g.B.Backend.goes c.loop.invariant.served turn;
      serves = c.in_ok-serve_request.ensures.serves (ap Ok c.if-not-branch.false);
      home = c.in_ok-serve_request.ensures.home ∙ c.loop.invariant.home;
    }

-- no frame was read behind the last request that is answered
pub returns-in_err-read_request-clause-ends : goal.returns-in_err-read_request-clause-ends
returns-in_err-read_request-clause-ends g c =
    let p = err_from_is_err_and c.from_residual-in_err-read_request.result c.from_residual-in_err-read_request.ensures.1 in
    rw (p.1, p.2) (ends-unanswered g.B.Backend.known g.B.Backend.goes c.loop.invariant.served _ _ (omega arith) c.read_request.ensures.outgoing
    c.in_err-read_request.ensures.reads)

-- the link has ended there
pub returns-in-None-clause-ends : goal.returns-in-None-clause-ends
returns-in-None-clause-ends g c =
    let read = subst (λ (o : Option Text). ReadsRequest (Ok o) (sides g.K.Source g.K.Sink c.loop.link).inwards (sides g.K.Source g.K.Sink
    c.read_request.new.link).inwards) c.in-None.is c.in_ok-read_request.ensures.reads in
    ends-whole g.B.Backend.known g.B.Backend.goes c.loop.invariant.served c.loop.service c.loop.backend _ (omega arith)
    (record { service = refl; backend = refl; outwards = c.read_request.ensures.outgoing }) read

-- there is one frame more
pub returns-clause-ends : goal.returns-clause-ends
returns-clause-ends g c =
    let read = subst (λ (o : Option Text). ReadsRequest (Ok o) (sides g.K.Source g.K.Sink c.loop.link).inwards (sides g.K.Source g.K.Sink
    c.read_request.new.link).inwards) c.in-Some.is c.in_ok-read_request.ensures.reads in
    ends-over g.B.Backend.known g.B.Backend.goes c.loop.invariant.served _ _ (omega arith) c.read_request.ensures.outgoing read
