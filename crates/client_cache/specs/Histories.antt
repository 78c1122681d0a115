-- The value at an address after a list of changes.
use Rattle.std.specs.Prelude.{◌≡◌, ℕ, List, [], ◌∷◌, fold, codes, pos, refl}
use Rattle.rdt_types.specs.declared.address.Kind.TheVariants as kind
use Rattle.rdt_types.specs.declared.address.Address.{Address}
use Rattle.rdt_types.specs.declared.value.Value.{Value}
use Rattle.rdt_types.specs.declared.value.Value.TheVariants as value
use Rattle.rdt_types.specs.declared.delta.Delta.{Delta}
use Rattle.rdt_types.specs.declared.delta.Delta.TheVariants as delta
use Rattle.rdt_types.specs.Values.{default_of}
use Rattle.rdt_types.specs.Deltas.{apply}
pub use Rattle.rdt_types.specs.Deltas.{apply_maybe}
use Rattle.change_feed.specs.declared.change.Change.{Change}
use Rattle.change_feed.specs.Pending.{deltas_at}

-- the value after deltas, one by one
abbrev pub applied : List Delta → Value → Value
applied deltas value = fold (λ v d. apply d v) value deltas

-- the value at an address after changes: each delta there in turn, begun with what stands at an address never written
abbrev pub state_at : List Change → Address → Value
state_at changes address = applied (deltas_at address changes) (default_of address.kind)

abbrev counter : List ℕ → Address
counter key = record { kind = kind.Counter; key = key }

-- three changes of two commits
abbrev example : List Change
example =
    record { number = 1; address = counter (codes "x"); delta = delta.PutCounter (pos 3) }
    ∷ record { number = 2; address = counter (codes "y"); delta = delta.PutCounter (pos 9) }
    ∷ record { number = 2; address = counter (codes "x"); delta = delta.AddCounter (pos 4) } ∷ []

-- a put of 3 and an addition of 4 make 7, whatever happens elsewhere
state_at-example : state_at example (counter (codes "x")) ≡ value.Counter (pos 7)
state_at-example = refl

-- an address that no change names has its default
state_at-elsewhere : state_at example (counter (codes "z")) ≡ value.Counter (pos 0)
state_at-elsewhere = refl
