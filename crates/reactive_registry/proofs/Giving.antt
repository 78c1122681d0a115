-- Numbers, where the same ones are given.
use Rattle.std.proofs.Common.{◌≡◌, ℕ, List, is_some, sym, ◌∙◌}
use Rattle.slab.specs.Slab as slab
use Rattle.rdt_types.specs.declared.address.Address.{Address}
use Rattle.edge_slab.specs.Edges.{Edges}
use Rattle.reactive_registry.specs.Numbers.{AreNumbers}

-- where the same numbers are given, all is as before
pub numbers_as_given : {T : Type 0} (numbers : List (Address × ℕ)) (given given' : slab.Slab T) (edges : Edges)
    → ((k : ℕ) → is_some (slab.get given' k) ≡ is_some (slab.get given k)) → AreNumbers numbers given edges → AreNumbers numbers given' edges
numbers_as_given numbers given given' edges same are = record {
  apart = are.apart;
  given_out = λ a n e. same n ∙ are.given_out a n e;
  unlinked = λ n s e. are.unlinked n s (sym (same n) ∙ e);
}
