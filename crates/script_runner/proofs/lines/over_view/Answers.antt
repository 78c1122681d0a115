use Rattle.session_core.specs.Lines.{line_of}
use Rattle.script_runner.proofs.Viewed.{view-played}
use Rattle.script_runner.proofs.lines.over_view.Goals as goal

-- the session's line has performed its program, by steps of the store
pub returns-in-Ok-clause-over : goal.returns-in-Ok-clause-over
returns-in-Ok-clause-over g c =
    view-played c.args.view.now c.line_by.new.backend c.args.session.now c.line_by.new.self (line_of c.args.text.now) c.in-Ok.turn
    (c.in-Ok.ensures.plays c.requires.attends.on)
