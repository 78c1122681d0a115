use Rattle.std.proofs.Common.{◌≡◌, ℕ}
use Rattle.change_feed.specs.Lists.{listed, pieces_left}
use Rattle.reactive_registry.specs.Registered.{kept_in}
use Rattle.reactive_registry.specs.code.Telling.{cut_along}
use Rattle.reactive_registry.proofs.telling.cut_all.Given as goal

-- once the rest is cut, all are
abbrev pub invariant-loop-piece : goal.invariant-loop-piece
invariant-loop-piece l = (q : ℕ) → cut_along l.places q l.front (listed l.rest) (kept_in l.subscribers.entries q)
    ≡ cut_along l.places q l.front l.changes (kept_in l.fn.subscribers.entries q)

-- the pieces come to an end
abbrev pub decreases-loop-piece : goal.decreases-loop-piece
decreases-loop-piece l = pieces_left l.rest
