use Rattle.std.proofs.lemmas.Result.{err_from_is_err_and}
use Rattle.diamond_server.proofs.Lines.{turn-none, turn-unfound, turn-answered}
use Rattle.diamond_server.proofs.serving.do_line.Goals as goal

-- no line was found
pub returns-in_err-line-clause-turns : goal.returns-in_err-line-clause-turns
returns-in_err-line-clause-turns g c =
    let p = err_from_is_err_and c.from_residual.result c.from_residual.ensures.1 in
    rw (p.1, p.2) (turn-unfound g.B.Backend.known g.B.Backend.goes _ _ _ _ _ _ _ c.in_err-line.ensures.finds)

-- the input has ended
pub returns-in-End-clause-turns : goal.returns-in-End-clause-turns
returns-in-End-clause-turns g c = turn-none g.B.Backend.known g.B.Backend.goes _ _ _ _ _ _ _ c.in-End.is c.in_ok-line.ensures.finds

-- the line was done
pub returns-clause-turns : goal.returns-clause-turns
returns-clause-turns g c = turn-answered g.B.Backend.known g.B.Backend.goes _ _ _ _ _ _ _ _ _ _ _ _ c.in_ok-line.ensures.finds c.answer.ensures.incoming c.answer.ensures.replies
    c.answer.ensures.stops
