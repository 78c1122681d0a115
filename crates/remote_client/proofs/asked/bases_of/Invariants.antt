use Rattle.std.proofs.Common.{◌≡◌, drop}
use Rattle.remote_calls.specs.Spelled.{naming, bases_of}
use Rattle.remote_client.proofs.asked.bases_of.Given as goal

-- what is named so far, and then the addresses of the rest, is what all name
abbrev pub invariant-loop-observed : goal.invariant-loop-observed
invariant-loop-observed l = bases_of l.fn.based ≡ naming l.named (drop l.observed-index l.fn.based)
