use Rattle.std.proofs.Common.{Option, subst}
use Rattle.std.proofs.lemmas.Result.{err_from_is_err_and}
use Rattle.dio_core.specs.declared.line.Line.{Line}
use Rattle.diamond_server.specs.Promises.{sides}
use Rattle.diamond_server.specs.code.Serving.{IsAtHand}
use Rattle.diamond_server.proofs.Held.{finds-lost, finds-ahead}
use Rattle.diamond_server.proofs.link.find_line.Goals as goal

-- it was at hand, and lost for want of memory
pub returns-in_err-line-clause-finds : goal.returns-in_err-line-clause-finds
returns-in_err-line-clause-finds g c =
    let told = sides g.K.Source g.K.Sink in
    let p = err_from_is_err_and c.from_residual.result c.from_residual.ensures.1 in
    rw (p.1, p.2) (finds-lost (told c.args.link.now) (told c.line_at_hand.new.link) c.args.held.now c.in_err-line.ensures.lost c.line_at_hand.ensures.reads
    c.line_at_hand.ensures.outgoing)

-- it was at hand
pub returns-in-Some-clause-finds : goal.returns-in-Some-clause-finds
returns-in-Some-clause-finds g c =
    let told = sides g.K.Source g.K.Sink in
    finds-ahead c.in-Some.line (told c.args.link.now) (told c.line_at_hand.new.link) c.args.held.now
    (subst (λ (o : Option Line). IsAtHand o (g.K.Source.left c.args.link.now) (g.K.Source.left c.line_at_hand.new.link)) c.in-Some.is
    c.in_ok-line.ensures.line) c.line_at_hand.ensures.reads c.line_at_hand.ensures.outgoing
