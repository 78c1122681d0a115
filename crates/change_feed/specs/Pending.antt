-- What is pending at an address after changes.
use Rattle.std.specs.Prelude.{◌≡◌, ℕ, List, [], ◌∷◌, fold, Option, Some, None, codes, pos, refl}
use Rattle.rdt_types.specs.declared.address.Kind.TheVariants as kind
use Rattle.rdt_types.specs.declared.address.Address.{Address}
use Rattle.rdt_types.specs.declared.delta.Delta.{Delta}
use Rattle.rdt_types.specs.declared.delta.Delta.TheVariants as delta
use Rattle.rdt_types.specs.DeltaMaps.{after_maybe}
use Rattle.change_feed.specs.declared.change.Change.{Change}
use Rattle.change_feed.specs.Changes.{of_address, deltas_of}

-- the deltas at an address, in order
abbrev pub deltas_at : Address → List Change → List Delta
deltas_at address changes = deltas_of (of_address address changes)

-- deltas after one that may stand before them, composed in order
abbrev pub composed_after : Option Delta → List Delta → Option Delta
composed_after before deltas = fold (λ d e. Some (after_maybe d e)) before deltas

-- the composition of the deltas at an address, in order, or nothing where there are none
abbrev pub pending : Address → List Change → Option Delta
pending address changes = composed_after None (deltas_at address changes)

abbrev counter : List ℕ → Address
counter key = record { kind = kind.Counter; key = key }

-- an addition at another address doesn't count, and one of 0 is pending
pending-example :
    pending (counter (codes "x"))
    (record { number = 1; address = counter (codes "x"); delta = delta.AddCounter (pos 0) }
    ∷ record { number = 1; address = counter (codes "y"); delta = delta.AddCounter (pos 5) } ∷ [])
    ≡ Some (delta.AddCounter (pos 0))
pending-example = refl

-- and nothing where nothing changed
pending-nothing : pending (counter (codes "x")) [] ≡ None
pending-nothing = refl
