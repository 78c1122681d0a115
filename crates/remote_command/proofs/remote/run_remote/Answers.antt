use Rattle.remote_link.specs.Exchanging.{sides}
use Rattle.remote_command.proofs.Split.{run-over}
use Rattle.remote_command.proofs.remote.run_remote.Goals as goal

-- the session's promises are those of its link
pub returns : goal.returns
returns g c =
    run-over (sides g.K.Source g.K.Sink) c.args.link c.run_over-caller.result.0 _ _ _ _ _ _ _ c.has_failed-failed.result _ _
    c.new.ensures c.close-link.ensures c.broken-broken.ensures c.status_of.ensures c.of-before.ensures.reads c.of-before.ensures.writes
    c.has_failed-failed.ensures.reads c.run_over-caller.ensures.promises
