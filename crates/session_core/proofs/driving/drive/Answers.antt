use Rattle.session_core.proofs.Approaching.{came_next, came_end, append_ends}
use Rattle.session_core.proofs.driving.drive.Goals as goal

pub returns-in-End-clause-plays : goal.returns-in-End-clause-plays
returns-in-End-clause-plays g c = (c.until_append.new.attempt, came_end c.args.session.now _ _ c.in-End.is c.in_ok-end.ensures.approaches)

pub returns-in-Append-clause-plays : goal.returns-in-Append-clause-plays
returns-in-Append-clause-plays g c =
    let at = came_next c.args.session.now c.in-Append.is c.in_ok-end.ensures.approaches in
    (c.until_append.new.attempt, append_ends c.args.session.now _ _ _ at.left c.append_last.result at.led c.append_last.ensures.plays)
