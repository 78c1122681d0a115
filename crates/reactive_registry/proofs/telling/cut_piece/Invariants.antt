use Rattle.std.proofs.Common.{◌≡◌, ℕ, drop}
use Rattle.reactive_registry.specs.Registered.{kept_in}
use Rattle.reactive_registry.specs.code.Telling.{cut_along}
use Rattle.reactive_registry.proofs.telling.cut_piece.Given as goal

-- once the rest is cut, all are
abbrev pub invariant-loop-change : goal.invariant-loop-change
invariant-loop-change l = (q : ℕ) → cut_along l.places q l.front (drop l.change-index l.piece) (kept_in l.subscribers.entries q)
    ≡ cut_along l.places q l.front l.piece (kept_in l.fn.subscribers.entries q)
