use Rattle.std.proofs.Common.{◌≤◌, ◌+◌, length, arith}
use Rattle.std.proofs.lemmas.Grind.{common_steps}
use Rattle.std.proofs.lemmas.Result.{err_from_is_err_and}
use Rattle.wire_frames.proofs.Pieced.{lacks-behind}
use Rattle.wire_frames.proofs.reading.rest_of_frame.Goals as goal

-- a piece lacks some bytes, so the frame does
pub returns-in_err-read_piece-clause-rest : goal.returns-in_err-read_piece-clause-rest
returns-in_err-read_piece-clause-rest g c =
    let left = g.R.Source.left in
    let before = c.loop-kept in
    let within : length before.kept.items + c.min-more.result ≤ c.args.length = grind (arith, common_steps) in
    let p = err_from_is_err_and c.from_residual.result c.from_residual.ensures.1 in
    rw (p.1, p.2) (lacks-behind _ before.kept.items c.min-more.result c.args.length (left c.args.source.now) (left before.source)
    (left c.read_piece.new.source) before.invariant.taken within c.in_err-read_piece.ensures.piece)
