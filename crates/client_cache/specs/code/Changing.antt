-- How the code advances a cache: new values first, and then each in its place. `held-advanced` of proofs/Changing ties this
-- to `Advances` of specs/Cached.
use Rattle.std.specs.Prelude.{[], ◌∷◌, fold, Option, Some, None}
use Rattle.std.specs.Map.{lookup, set_value}
use Rattle.std.specs.BTreeMap.{is_at}
use Rattle.rdt_types.specs.declared.address.Address.{Address}
use Rattle.rdt_types.specs.declared.value.Value.{Value}
use Rattle.rdt_types.specs.declared.delta.Delta.{Delta}
use Rattle.rdt_types.specs.Addresses.{address_cmp}
use Rattle.rdt_types.specs.Deltas.{apply}
use Rattle.rdt_types.specs.DeltaMaps.{Deltas}
use Rattle.client_cache.specs.Cached.{Values}

-- a new value before others, where an old one is held
abbrev pub changed_one : Address → Delta → Option Value → Values → Values
changed_one address delta None rest = rest
changed_one address delta (Some value) rest = (address, apply delta value) ∷ rest

-- the values that deltas make of those that are held
abbrev pub changed_from : Values → Deltas → Values
changed_from values [] = []
changed_from values (change ∷ changes) =
    changed_one change.0 change.1 (lookup (is_at (address_cmp change.0)) values) (changed_from values changes)

-- values with others in the places of those at their addresses
abbrev pub with_all : Values → Values → Values
with_all values changed = fold (λ all pair. set_value (is_at (address_cmp pair.0)) all pair.1) values changed
