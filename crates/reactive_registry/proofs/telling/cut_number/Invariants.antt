use Rattle.std.proofs.Common.{◌≡◌, ℕ, nat_eq}
use Rattle.std.specs.List.{IsDistinct}
use Rattle.edge_slab.specs.Edges.{is_in, is_linked}
use Rattle.reactive_registry.specs.Registered.{kept_in}
use Rattle.reactive_registry.specs.code.Telling.{cut, done_where}
use Rattle.reactive_registry.proofs.telling.cut_number.Given as goal

-- once those that are left are cut, all are
abbrev pub invariant-loop-subscriber : goal.invariant-loop-subscriber
invariant-loop-subscriber l = record {
  once : IsDistinct nat_eq l.subscriber-iterator;
  all : (q : ℕ) → done_where (is_in q l.subscriber-iterator) (cut l.front) (kept_in l.subscribers.entries q)
      ≡ done_where (is_linked l.edges q l.number) (cut l.front) (kept_in l.fn.subscribers.entries q);
}
