use Rattle.remote_command.proofs.Held.{over-closed}
use Rattle.remote_command.proofs.session.run_over.Goals as goal

-- the session's promises are those of its client's caller
pub returns-in-Ok-clause-promises : goal.returns-in-Ok-clause-promises
returns-in-Ok-clause-promises g c =
    over-closed g.C.Caller.known g.C.Caller.home g.C.Caller.goes g.C.Caller.does c.args.caller _ _ _ _ _ _ c.close.ensures c.in-Ok.ensures
    c.serve_remote-status.ensures.promises
