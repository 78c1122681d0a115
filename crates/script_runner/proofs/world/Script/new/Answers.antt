use Rattle.local_world.specs.Stored.{store_of}
use Rattle.script_runner.proofs.Standing.{made-stands}
use Rattle.script_runner.proofs.world.Script.new.Goals as goal

-- the world is the first one
pub returns-clause-stands : goal.returns-clause-stands
returns-clause-stands c =
    made-stands c.args.settings.now (store_of c.in_ok-world.world) c.in_ok-sessions.sessions.items c.in_ok-world.ensures.first c.in_ok-sessions.ensures
