use Rattle.diamond_server.proofs.Lines.{turn-replies}
use Rattle.std.proofs.lemmas.Result.{err_from_is_err_and}
use Rattle.diamond_server.proofs.Stopping.{stops-begun, stops-unsaid}
use Rattle.diamond_server.proofs.answering.text_answer.Goals as goal

-- the session's turn, as text
pub returns-in_ok-hold_turn-in-Ok-clause-replies : goal.returns-in_ok-hold_turn-in-Ok-clause-replies
returns-in_ok-hold_turn-in-Ok-clause-replies g c =
    turn-replies g.B.Backend.known g.B.Backend.goes _ _ _ _ c.in-Ok.turn _ _ _ _ _ _ _ _ c.requires.short c.as_slice.ensures c.in-Ok.ensures.answers c.in-Ok.ensures.holds
    c.in_ok-hold_turn-in-Ok.ensures.held c.in_ok-hold_turn-in-Ok.ensures.left

-- there was no memory for it
pub returns-in_err-hold_turn-in-Ok-clause-stops : goal.returns-in_err-hold_turn-in-Ok-clause-stops
returns-in_err-hold_turn-in-Ok-clause-stops g c =
    let p = err_from_is_err_and c.from_residual.result c.from_residual.ensures.1 in
    rw (p.1, p.2) (stops-unsaid g.B.Backend.known g.B.Backend.goes _ _ _ _ c.in-Ok.turn _ _ _ _ _ _ _ c.requires.short c.as_slice.ensures
    c.in-Ok.ensures.answers c.in-Ok.ensures.holds c.in_err-hold_turn-in-Ok.ensures.same)

-- the line stopped
pub returns-in-Err-clause-stops : goal.returns-in-Err-clause-stops
returns-in-Err-clause-stops g c =
    stops-begun g.B.Backend.known g.B.Backend.goes c.args.backend.now c.args.ongoing.now.session _ _ c.said.new.backend c.in-Err.stop _ _ _ _ _ _ c.requires.short
    c.as_slice.ensures c.in-Err.ensures.stops
