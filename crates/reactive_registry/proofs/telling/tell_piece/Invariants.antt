use Rattle.std.proofs.Common.{◌≡◌, ℕ, false, drop, option_map}
use Rattle.reactive_registry.specs.Registered.{kept_in}
use Rattle.reactive_registry.specs.code.Telling.{cut, told_along, is_linked, ArePast}
use Rattle.reactive_registry.proofs.telling.tell_piece.Given as goal

-- once the rest is told, all are; what was told so far is past the front, and only where it was linked
abbrev pub invariant-loop-change : goal.invariant-loop-change
invariant-loop-change l = record {
  ok : (q : ℕ) → told_along l.places q (drop l.change-index l.piece) (kept_in l.subscribers.entries q)
      ≡ told_along l.places q l.piece (kept_in l.fn.subscribers.entries q);
  behind : (front : ℕ) → ArePast front l.piece → (q : ℕ)
      → option_map (cut front) (kept_in l.subscribers.entries q) ≡ option_map (cut front) (kept_in l.fn.subscribers.entries q);
  elsewhere : (q : ℕ) → is_linked l.places q l.piece ≡ false → kept_in l.subscribers.entries q ≡ kept_in l.fn.subscribers.entries q;
}
