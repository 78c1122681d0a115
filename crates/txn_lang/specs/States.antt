-- The values that commits leave.
use Rattle.std.specs.Prelude.{◌≡◌, ℕ, List, [], ◌∷◌, fold, take, Option, Some, codes, pos, refl}
use Rattle.rdt_types.specs.declared.address.Kind.TheVariants as kind
use Rattle.rdt_types.specs.declared.address.Address.{Address}
use Rattle.rdt_types.specs.declared.delta.Delta.TheVariants as delta
use Rattle.rdt_types.specs.declared.outcome.Outcome.TheVariants as outcome
use Rattle.rdt_types.specs.declared.value.Value.{Value}
use Rattle.rdt_types.specs.declared.value.Value.TheVariants as value
use Rattle.rdt_types.specs.Values.{default_of}
pub use Rattle.rdt_types.specs.Deltas.{apply_maybe}
use Rattle.rdt_types.specs.DeltaMaps.{Deltas, delta_at}
use Rattle.txn_lang.specs.declared.commit.Commit.{Commit}

-- a value at every address
abbrev pub State : Type 0
State = Address → Value

-- a value at some addresses
abbrev pub PartialState : Type 0
PartialState = Address → Option Value

-- a whole state, as one that has a value everywhere
abbrev pub known : State → PartialState
known state address = Some (state address)

-- the value at an address after the deltas of one commit
abbrev pub after : Deltas → Address → Value → Value
after deltas address value = apply_maybe (delta_at deltas address) value

-- commits in their order
abbrev pub Journal : Type 0
Journal = List Commit

-- what a journal leaves: at each address the default, and then the deltas of its commits in order
abbrev pub left_by : Journal → State
left_by journal address = fold (λ value commit. after commit.deltas address value) (default_of address.kind) journal

-- the state after the first n commits
abbrev pub state : Journal → ℕ → State
state journal n = left_by (take n journal)

-- ---- two commits

-- the counter `x`
abbrev pub x_at : Address
x_at = record { kind = kind.Counter; key = codes "x" }

-- a put of 3 by client 7, and behind it an addition of 4 by client 9
abbrev pub put_and_add : Journal
put_and_add =
    record { number = 1; client = 7; seq = 1; body = []; outcome = outcome.Ok []; deltas = (x_at, delta.PutCounter (pos 3)) ∷ [] }
    ∷ record { number = 2; client = 9; seq = 1; body = []; outcome = outcome.Ok []; deltas = (x_at, delta.AddCounter (pos 4)) ∷ [] } ∷ []

-- together they leave 7 there
left_by-example : left_by put_and_add x_at ≡ value.Counter (pos 7)
left_by-example = refl

-- and at another address its default
left_by-elsewhere : left_by put_and_add (record { kind = kind.Counter; key = codes "y" }) ≡ value.Counter (pos 0)
left_by-elsewhere = refl

-- the first alone leaves 3
state-example : state put_and_add 1 x_at ≡ value.Counter (pos 3)
state-example = refl
