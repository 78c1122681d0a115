use Rattle.std.proofs.Common.{◌≡◌, drop}
use Rattle.version_shard.proofs.chain.let_go.Given as goal

-- so many are gone
abbrev pub invariant-loop-turn : goal.invariant-loop-turn
invariant-loop-turn g l = l.items.items ≡ drop l._turn l.fn.items.items
