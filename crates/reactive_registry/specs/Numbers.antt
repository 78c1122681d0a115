-- The numbers of addresses, beside the edges to them.
use Rattle.std.specs.Prelude.{◌≡◌, ℕ, Bool, true, false, if◌then◌else◌, nat_eq, List, Some, is_some}
use Rattle.slab.specs.Slab as slab
use Rattle.rdt_types.specs.declared.address.Address.{Address}
use Rattle.edge_slab.specs.Edges.{Edges, is_linked}
use Rattle.reactive_registry.specs.Placed.{number_in}

-- Different addresses have different numbers, each of them given, and a number that isn't given has no edge.
pub record AreNumbers {T : Type 0} (numbers : List (Address × ℕ)) (given : slab.Slab T) (edges : Edges) : Type 0 where
  pub apart : (a b : Address) (number : ℕ) → number_in numbers a ≡ Some number → number_in numbers b ≡ Some number → a ≡ b
  pub given_out : (address : Address) (number : ℕ) → number_in numbers address ≡ Some number → is_some (slab.get given number) ≡ true
  pub unlinked : (number subscriber : ℕ) → is_some (slab.get given number) ≡ false → is_linked edges subscriber number ≡ false

-- which numbers are given, once that is settled of one: the others are as before
abbrev pub SettlesNumber : {T : Type 0} → ℕ → Bool → slab.Slab T → slab.Slab T → Type 0
SettlesNumber number is_given old new = (k : ℕ) → is_some (slab.get new k) ≡ (if nat_eq number k then is_given else is_some (slab.get old k))
