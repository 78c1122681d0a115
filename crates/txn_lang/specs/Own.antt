-- The body's own operations, what they come to, and what a run has observed.
use Rattle.std.specs.Prelude.{◌≡◌, if◌then◌else◌, List, [], ◌∷◌, ◌++◌, fold, filter, map, pos, codes, refl}
use Rattle.std.specs.List.{list_any, AllByRecursion}
use Rattle.std.specs.Ordering.{is_eq}
use Rattle.rdt_types.specs.declared.address.Kind.TheVariants as kind
use Rattle.rdt_types.specs.declared.address.Address.{Address}
use Rattle.rdt_types.specs.declared.value.Value.{Value}
use Rattle.rdt_types.specs.declared.operation.WriteOp.{WriteOp}
use Rattle.rdt_types.specs.declared.operation.WriteOp.TheVariants as op
use Rattle.rdt_types.specs.Addresses.{address_cmp}
use Rattle.rdt_types.specs.Values.{kind_written}
use Rattle.rdt_types.specs.Deltas.{delta_of}
use Rattle.rdt_types.specs.DeltaMaps.{Deltas, with_delta}
use Rattle.conflict_table.specs.Reads.{replay}
use Rattle.txn_lang.specs.declared.run.Seen.{Seen}
use Rattle.txn_lang.specs.contracts.run.SeenPartialEq.TheImpl as seen_eq
use Rattle.txn_lang.specs.States.{after}

-- the body's own operations, each at its address, in order
abbrev pub Operations : Type 0
Operations = List (Address × WriteOp)

-- the operations at an address, in order
abbrev pub at_address : Address → Operations → List WriteOp
at_address a own = map (λ w. w.1) (filter (λ w. is_eq (address_cmp a w.0)) own)

-- an observation is listed when it is first made
abbrev pub with_seen : List Seen → Seen → List Seen
with_seen seen s = if list_any (λ t. seen_eq.ghosts.eq t s) seen then seen else seen ++ s ∷ []

-- of operations at two counters those at one
at_address-example : at_address (record { kind = kind.Counter; key = codes "x" })
    ((record { kind = kind.Counter; key = codes "x" }, op.AddCounter (pos 1))
    ∷ (record { kind = kind.Counter; key = codes "y" }, op.AddCounter (pos 2)) ∷ [])
    ≡ op.AddCounter (pos 1) ∷ []
at_address-example = refl

-- The deltas of operations: at each address the composition of theirs, in order.
abbrev pub deltas_of : Operations → Deltas
deltas_of own = fold (λ deltas w. with_delta deltas w.0 (delta_of w.1)) [] own

-- ---- a law

-- each operation is of the kind of its address
abbrev pub AreOfTheirKinds : Operations → Type 0
AreOfTheirKinds own = AllByRecursion (λ w. kind_written w.1 ≡ w.0.kind) own

-- the deltas of operations leave at each address what the operations leave, one after the other
abbrev pub DeltasLeaveWhatOperationsLeave : Type 0
DeltasLeaveWhatOperationsLeave =
    (own : Operations) (a : Address) (v : Value) → AreOfTheirKinds own → after (deltas_of own) a v ≡ replay (at_address a own) v
