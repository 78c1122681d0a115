use Rattle.script_runner.proofs.Viewed.{refreshed}
use Rattle.script_runner.proofs.world.commits_in.Goals as goal

-- a client is told the journal's length
pub returns-in-Ok : goal.returns-in-Ok
returns-in-Ok c = refreshed _ _ c.in-Ok.number c.in-Ok.ensures.goes
