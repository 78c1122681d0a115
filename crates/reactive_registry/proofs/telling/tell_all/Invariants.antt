use Rattle.std.proofs.Common.{◌≡◌, ℕ, false, option_map}
use Rattle.change_feed.specs.Lists.{listed, pieces_left}
use Rattle.reactive_registry.specs.Registered.{kept_in}
use Rattle.reactive_registry.specs.code.Telling.{cut, told_along, is_linked, ArePast}
use Rattle.reactive_registry.proofs.telling.tell_all.Given as goal

-- once the rest is told, all are; what was told so far is past the front, and only where it was linked
abbrev pub invariant-loop-piece : goal.invariant-loop-piece
invariant-loop-piece l = record {
  ok : (q : ℕ) → told_along l.places q (listed l.rest) (kept_in l.subscribers.entries q)
      ≡ told_along l.places q l.changes (kept_in l.fn.subscribers.entries q);
  behind : (front : ℕ) → ArePast front l.changes → ArePast front (listed l.rest)
      × ((q : ℕ) → option_map (cut front) (kept_in l.subscribers.entries q) ≡ option_map (cut front) (kept_in l.fn.subscribers.entries q));
  elsewhere : (q : ℕ) → is_linked l.places q l.changes ≡ false
      → (is_linked l.places q (listed l.rest) ≡ false) × (kept_in l.subscribers.entries q ≡ kept_in l.fn.subscribers.entries q);
}

-- the pieces come to an end
abbrev pub decreases-loop-piece : goal.decreases-loop-piece
decreases-loop-piece l = pieces_left l.rest
