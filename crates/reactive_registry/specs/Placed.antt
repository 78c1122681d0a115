-- What places hold: the numbers of addresses, and who is linked to which number.
use Rattle.std.specs.Prelude.{ℕ, List, Option, refl}
use Rattle.std.specs.Coded.{Coded, code_by, coded×, coded_list, coded_ℕ}
use Rattle.std.specs.Map.{lookup}
use Rattle.std.specs.BTreeMap.{is_at}
use Rattle.rdt_types.specs.declared.address.Address.{Address}
use Rattle.rdt_types.specs.Addresses.{address_cmp}
use Rattle.edge_slab.specs.Edges.{Edges, edges_code}

-- the number of each address that has one, by rising address, and the edges from subscribers to these numbers
pub record Placed : Type 0 where
  pub numbers : List (Address × ℕ)
  pub edges : Edges

-- they are stored as the pair of the two
abbrev pub placed_code : Coded Address → Coded Placed
placed_code address =
    code_by (List (Address × ℕ) × Edges) (coded× (coded_list (coded× address coded_ℕ)) edges_code) (λ p. (p.numbers, p.edges))
    (λ p. record { numbers = p.0; edges = p.1 }) (λ _. refl)

-- the number of an address
abbrev pub number_in : List (Address × ℕ) → Address → Option ℕ
number_in numbers address = lookup (is_at (address_cmp address)) numbers
