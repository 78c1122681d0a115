-- What a registry stands for: changes of a journal.
use Rattle.std.specs.Prelude.{◌≡◌, ℕ, ◌≤◌, pos, List, [], ◌∷◌, if◌then◌else◌, Some, codes, refl}
use Rattle.std.specs.List.{AllByRecursion}
use Rattle.rdt_types.specs.declared.address.Kind.TheVariants as kind
use Rattle.rdt_types.specs.declared.address.Address.{Address}
use Rattle.rdt_types.specs.declared.delta.Delta.TheVariants as delta
use Rattle.change_feed.specs.declared.change.Change.{Change}
use Rattle.change_feed.specs.Changes.{past}
use Rattle.change_feed.specs.Pending.{deltas_at, pending}
use Rattle.reactive_registry.specs.Registered.{Kept, Registered, kept_of, is_address}

-- What is kept of a subscriber stands for changes: at each of its addresses the deltas that it hasn't taken are those of
-- the changes past the number taken last, and there are none elsewhere.
pub record KeptFor (changes : List Change) (front : ℕ) (kept : Kept) : Type 0 where
  pub taken : kept.taken ≤ front
  pub deltas : (address : Address)
      → deltas_at address kept.changes ≡ (if is_address kept address then deltas_at address (past kept.taken changes) else [])

-- A registry stands for changes: all are of commits up to its front, and what it keeps of each subscriber stands for them.
pub record StandsFor (changes : List Change) (registry : Registered) : Type 0 where
  pub followed : AllByRecursion (λ change. change.number ≤ registry.front) changes
  pub kept : (subscriber : ℕ) (kept : Kept) → kept_of registry subscriber ≡ Some kept → KeptFor changes registry.front kept

abbrev counter : List ℕ → Address
counter key = record { kind = kind.Counter; key = key }

-- of an addition in commit 1 and one in commit 2 a subscriber that has taken up to 1 has the second pending
pending-example :
    pending (counter (codes "x"))
    (past 1 (record { number = 1; address = counter (codes "x"); delta = delta.AddCounter (pos 5) }
    ∷ record { number = 2; address = counter (codes "x"); delta = delta.AddCounter (pos 2) } ∷ []))
    ≡ Some (delta.AddCounter (pos 2))
pending-example = refl
