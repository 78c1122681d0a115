-- Deltas at several addresses, as the list of pairs by rising address.
use Rattle.std.specs.Prelude.{◌≡◌, ℕ, List, [], ◌∷◌, codes, pos, Option, Some, None, refl}
use Rattle.std.specs.Map.{lookup}
use Rattle.std.specs.BTreeMap.{insert_entry, is_at}
use Rattle.rdt_types.specs.declared.address.Kind.TheVariants as kind
use Rattle.rdt_types.specs.declared.address.Address.{Address}
use Rattle.rdt_types.specs.declared.delta.Delta.{Delta}
use Rattle.rdt_types.specs.declared.delta.Delta.TheVariants as delta
use Rattle.rdt_types.specs.Addresses.{address_cmp}
use Rattle.rdt_types.specs.Deltas.{compose}

-- deltas at addresses
abbrev pub Deltas : Type 0
Deltas = List (Address × Delta)

-- the delta at an address, if there is one
abbrev pub delta_at : Deltas → Address → Option Delta
delta_at deltas address = lookup (is_at (address_cmp address)) deltas

-- a delta after one that may stand before it
abbrev pub after_maybe : Option Delta → Delta → Delta
after_maybe None delta = delta
after_maybe (Some before) delta = compose before delta

-- one more delta at an address, after what stands there
abbrev pub with_delta : Deltas → Address → Delta → Deltas
with_delta deltas address delta = insert_entry address_cmp deltas address (after_maybe (delta_at deltas address) delta)

-- the counter with this key
abbrev counter : List ℕ → Address
counter key = record { kind = kind.Counter; key = key }

-- an addition goes into the put that stands at its address
with_delta-there : with_delta ((counter (codes "x"), delta.PutCounter (pos 7)) ∷ []) (counter (codes "x")) (delta.AddCounter (pos 1))
    ≡ (counter (codes "x"), delta.PutCounter (pos 8)) ∷ []
with_delta-there = refl

-- and at an address that has none to its place in the order
with_delta-new : with_delta ((counter (codes "x"), delta.PutCounter (pos 7)) ∷ []) (counter (codes "a")) (delta.AddCounter (pos 1))
    ≡ (counter (codes "a"), delta.AddCounter (pos 1)) ∷ (counter (codes "x"), delta.PutCounter (pos 7)) ∷ []
with_delta-new = refl

-- two additions at one counter are one, also around a put at another
with_delta-around : with_delta (with_delta (with_delta [] (counter (codes "y")) (delta.AddCounter (pos 1))) (counter (codes "x")) (delta.PutCounter (pos 2)))
    (counter (codes "y")) (delta.AddCounter (pos 3))
    ≡ (counter (codes "x"), delta.PutCounter (pos 2)) ∷ (counter (codes "y"), delta.AddCounter (pos 4)) ∷ []
with_delta-around = refl
