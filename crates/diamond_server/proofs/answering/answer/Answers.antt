use Rattle.std.proofs.Common.{refl}
use Rattle.std.proofs.lemmas.Result.{err_from_is_err_and}
use Rattle.diamond_server.proofs.Lines.{refusal-replies}
use Rattle.diamond_server.proofs.Stopping.{too-long, stops-unrefused}
use Rattle.diamond_server.proofs.answering.answer.Goals as goal

-- there was no memory for the refusal
pub returns-in_err-hold_refusal-in_default : goal.returns-in_err-hold_refusal-in_default
returns-in_err-hold_refusal-in_default g c =
    let p = err_from_is_err_and c.from_residual.result c.from_residual.ensures.1 in
    let long = too-long c.args.line.now c.requires.some c.in_default.not-Bytes in
    rw (p.1, p.2) (record {
      replies = tt;
      stops = stops-unrefused g.B.Backend.known g.B.Backend.goes c.args.backend.now c.args.ongoing.now.session c.args.line.now _ c.args.ongoing.now.held
          c.hold_refusal.new.held long c.in_err-hold_refusal-in_default.ensures.same;
      incoming = refl;
      attends = tt;
      home = refl;
    })

-- the line is refused
pub returns-in_ok-hold_refusal-in_default : goal.returns-in_ok-hold_refusal-in_default
returns-in_ok-hold_refusal-in_default g c = record {
  replies = refusal-replies g.B.Backend.known g.B.Backend.goes c.args.backend.now c.args.ongoing.now.session c.args.line.now _ c.args.ongoing.now.held
      c.hold_refusal.new.held (too-long c.args.line.now c.requires.some c.in_default.not-Bytes) c.in_ok-hold_refusal-in_default.ensures.held;
  stops = tt;
  incoming = refl;
  attends = c.requires.attends;
  home = refl;
}
