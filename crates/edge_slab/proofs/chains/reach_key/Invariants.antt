use Rattle.std.proofs.Common.{◌≡◌, ℕ, ◌+◌, ◌-◌, vec_len}
use Rattle.edge_slab.specs.Chains.{key_ties}
use Rattle.edge_slab.proofs.chains.reach_key.Given as goal

-- all ties are as they were
abbrev pub invariant-reach : goal.invariant-reach
invariant-reach l = (k : ℕ) → key_ties l.ties.items k ≡ key_ties l.fn.ties.items k

abbrev pub decreases-reach : goal.decreases-reach
decreases-reach l = l.key + 1 - vec_len l.ties
