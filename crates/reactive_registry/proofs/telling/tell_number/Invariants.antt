use Rattle.std.proofs.Common.{◌≡◌, ℕ, ◌<◌, true, false, option_map, nat_eq}
use Rattle.std.specs.List.{IsDistinct}
use Rattle.edge_slab.specs.Edges.{is_in, is_linked}
use Rattle.reactive_registry.specs.Registered.{kept_in}
use Rattle.reactive_registry.specs.code.Telling.{pushed, cut, done_where}
use Rattle.reactive_registry.proofs.telling.tell_number.Given as goal

-- once those that are left are told, all are; what was told so far is past any front below the change, and only of linked ones
abbrev pub invariant-loop-subscriber : goal.invariant-loop-subscriber
invariant-loop-subscriber l = record {
  once : IsDistinct nat_eq l.subscriber-iterator;
  within : (q : ℕ) → is_in q l.subscriber-iterator ≡ true → is_linked l.edges q l.number ≡ true;
  ok : (q : ℕ) → done_where (is_in q l.subscriber-iterator) (pushed l.change) (kept_in l.subscribers.entries q)
      ≡ done_where (is_linked l.edges q l.number) (pushed l.change) (kept_in l.fn.subscribers.entries q);
  behind : (front : ℕ) → front < l.change.number → (q : ℕ)
      → option_map (cut front) (kept_in l.subscribers.entries q) ≡ option_map (cut front) (kept_in l.fn.subscribers.entries q);
  elsewhere : (q : ℕ) → is_linked l.edges q l.number ≡ false → kept_in l.subscribers.entries q ≡ kept_in l.fn.subscribers.entries q;
}
