use Rattle.std.proofs.Common.{◌≡◌}
use Rattle.script_runner.specs.Play.{first_sessions}
use Rattle.script_runner.proofs.world.first_sessions.Given as goal

-- so many clients have their session
abbrev pub invariant-loop-client : goal.invariant-loop-client
invariant-loop-client l = l.sessions.items ≡ first_sessions l.client
