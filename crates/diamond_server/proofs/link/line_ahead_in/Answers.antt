use Rattle.std.proofs.Common.{◌≤◌, arith}
use Rattle.dio_core.specs.declared.line.TheConstants.{LONGEST_LINE}
use Rattle.diamond_server.proofs.Held.{ahead-at-hand, reads-lost}
use Rattle.diamond_server.proofs.link.line_ahead_in.Goals as goal

-- the line was read ahead with its newline
pub returns-in_ok-line-in-Some-clause-line : goal.returns-in_ok-line-in-Some-clause-line
returns-in_ok-line-in-Some-clause-line g c =
    let at = c.in-Some.ensures.line in
    let room = c.requires in
    let kept = c.line_ahead.auto.buf in
    let few : c.in-Some.count ≤ LONGEST_LINE = omega (arith, at.0, room, kept) in
    ahead-at-hand c.in-Some.count c.line_ahead.new.buf c.in_ok-line-in-Some.line _ _ c.in_ok-line-in-Some.ensures at.0 few at.1 at.2

-- it was read ahead, and lost
pub returns-in_err-line-in-Some-clause-lost : goal.returns-in_err-line-in-Some-clause-lost
returns-in_err-line-in-Some-clause-lost g c = reads-lost c.from_residual.result _ c.line_ahead.new.buf _ _ c.in-Some.ensures.line.2
