use Rattle.std.proofs.Common.{◌≡◌, drop}
use Rattle.remote_service.specs.Keeping.{front_kept, last_front}
use Rattle.remote_service.proofs.kept.front_kept.Given as goal

-- what was found so far, and then the rest, is what all give
abbrev pub invariant-loop-given : goal.invariant-loop-given
invariant-loop-given l = front_kept l.fn.kept l.fn.shard l.fn.observed ≡ last_front l.fn.shard l.fn.observed l.found (drop l.given-index l.kept)
