use Rattle.std.proofs.Common.{◌≡◌, []}
use Rattle.std.specs.Prelude.{replicate}
use Rattle.local_world.specs.Standing.{AreHeldTo, fronts_of}
use Rattle.local_world.proofs.making.empty_shards.Given as goal

-- so many shards are there, which have followed nothing
abbrev pub invariant-loop-number : goal.invariant-loop-number
invariant-loop-number l = AreHeldTo [] l.settings l.number l.shards.items × (fronts_of l.shards.items ≡ replicate l.number 0)
