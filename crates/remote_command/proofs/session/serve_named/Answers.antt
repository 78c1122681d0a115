use Rattle.remote_client.specs.Standing.{stood_for, Steps}
use Rattle.remote_command.proofs.Held.{at-ends}
use Rattle.remote_command.proofs.session.serve_named.Goals as goal

-- what is given back is what was joined, as the session left it
pub returns-clause-promises : goal.returns-clause-promises
returns-clause-promises g c =
    at-ends g.S.Source g.W.Sink (stood_for g.C.Caller.known) (Steps g.C.Caller.goes g.C.Caller.does) _ _ _ _ _ _ _ _ _ c.new-joined.ensures
    c.release.ensures.source c.release.ensures.sink c.serve_session-status.ensures.promises
