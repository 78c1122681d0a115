-- Who is subscribed to an address: the other direction.
use Rattle.std.specs.Prelude.{◌≡◌, ℕ, ◌≤◌, Bool, false, ◌&&◌, if◌then◌else◌, List, Some}
use Rattle.std.specs.List.{AllByRecursion}
use Rattle.std.specs.Option.{option_map_or}
use Rattle.std.specs.Ordering.{nat_cmp}
use Rattle.std.specs.BTreeMap.{is_at}
use Rattle.rdt_types.specs.declared.address.Address.{Address}
use Rattle.rdt_types.specs.Addresses.{address_cmp}
use Rattle.edge_slab.specs.Edges.{is_linked}
use Rattle.reactive_registry.specs.declared.places.Places.{Places}
use Rattle.reactive_registry.specs.Placed.{number_in}
use Rattle.reactive_registry.specs.Registered.{Kept, kept_in, is_in}

-- whether a subscriber stands at an address: it is linked to the address's number
abbrev pub links : Places → Address → ℕ → Bool
links places address subscriber =
    option_map_or (λ number. is_linked places.edges subscriber number) (number_in places.numbers address) false

-- who stands where, once that is settled of one subscriber at one address: the other pairs are as before
abbrev pub with_link : Places → Address → ℕ → Bool → Address → ℕ → Bool
with_link places address subscriber stands a s =
    if is_at (address_cmp address) a && is_at (nat_cmp subscriber) s then stands else links places a s

-- who stands where without a subscriber
abbrev pub without_links : Places → ℕ → Address → ℕ → Bool
without_links places subscriber a s = if is_at (nat_cmp subscriber) s then false else links places a s

-- that is settled, and everybody else stands where it stood
abbrev pub SettlesLink : Address → ℕ → Bool → Places → Places → Type 0
SettlesLink address subscriber stands old new = (a : Address) (s : ℕ) → links new a s ≡ with_link old address subscriber stands a s

-- everybody stands where it stood
abbrev pub KeepsLinks : Places → Places → Type 0
KeepsLinks old new = (a : Address) (s : ℕ) → links new a s ≡ links old a s

-- no change that is kept is past a front
abbrev pub HaveFollowed : ℕ → List (ℕ × Kept) → Type 0
HaveFollowed front subscribers =
    (subscriber : ℕ) (kept : Kept) → kept_in subscribers subscriber ≡ Some kept → AllByRecursion (λ change. change.number ≤ front) kept.changes

-- The two directions have the same pairs, and no kept change is past the front.
pub record AreLinked (front : ℕ) (subscribers : List (ℕ × Kept)) (places : Places) : Type 0 where
  pub both_ways : (subscriber : ℕ) (address : Address) → links places address subscriber ≡ is_in subscribers subscriber address
  pub followed : HaveFollowed front subscribers
