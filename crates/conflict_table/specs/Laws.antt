-- What the table of clashes promises, as laws over its definition.
use Rattle.std.specs.Prelude.{◌≡◌, ◌≢◌, pos, true, false, ◌||◌, List, is_some, Some, FitsSigned}
use Rattle.std.specs.Int.{w64}
use Rattle.std.specs.List.{AllByRecursion}
use Rattle.rdt_types.specs.declared.address.Kind.{Kind}
use Rattle.rdt_types.specs.declared.value.Value.{Value}
use Rattle.rdt_types.specs.declared.operation.WriteOp.{WriteOp}
use Rattle.rdt_types.specs.declared.delta.Delta.{Delta}
use Rattle.rdt_types.specs.declared.delta.Delta.TheVariants as delta
use Rattle.rdt_types.specs.Values.{kind_of, kind_written}
use Rattle.rdt_types.specs.Deltas.{apply, compose, delta_of, kind_changed}
use Rattle.conflict_table.specs.declared.observation.Obs.{Obs}
use Rattle.conflict_table.specs.declared.read.ReadOp.{ReadOp}
use Rattle.conflict_table.specs.Reads.{replay, answer, is_decided, observed}
use Rattle.conflict_table.specs.Observing.{kind_observed, observe, IsWithin}
use Rattle.conflict_table.specs.Clashes.{clash}
use Rattle.conflict_table.specs.Parts.{named}
use Rattle.conflict_table.specs.Composed.{composed_of, left_by, is_decided_by, observed_by}

-- Without a clash a delta leaves what was observed as it was.
abbrev pub NoClashNoChange : Type 0
NoClashNoChange =
    (o : Obs) (d : Delta) (v : Value) → kind_observed o ≡ kind_changed d → IsWithin o v
    → clash o d ≡ false
    → observe o (apply d v) ≡ observe o v

-- So a value that fits an observation fits it again after a delta without a clash.
abbrev pub FitsAgain : Type 0
FitsAgain =
    (o : Obs) (d : Delta) (v : Value) → kind_observed o ≡ kind_changed d → IsWithin o v
    → clash o d ≡ false
    → IsWithin o (apply d v)

-- the number of an addition has 64 bits, as every number that a program meets
abbrev pub FitsIn64Bits : Delta → Type 0
FitsIn64Bits (delta.AddCounter n) = FitsSigned w64 n
FitsIn64Bits _ = Unit {0}

-- some value of the kind on which the observation can be made shows the change
abbrev pub ShowsChange : Obs → Delta → Type 0
ShowsChange o d =
    (v : Value) × (kind_of v ≡ kind_observed o) × IsWithin o v × (observe o (apply d v) ≢ observe o v)

-- With a clash, some value shows a change, unless the delta is an addition of 0.
abbrev pub ClashesShowChanges : Type 0
ClashesShowChanges =
    (o : Obs) (d : Delta) → kind_observed o ≡ kind_changed d → FitsIn64Bits d → d ≢ delta.AddCounter (pos 0)
    → clash o d ≡ true
    → ShowsChange o d

-- An observation clashes with a composition exactly where it clashes with one of its parts.
abbrev pub CompositionsClashByParts : Type 0
CompositionsClashByParts =
    (o : Obs) (first second : Delta) → kind_changed first ≡ kind_changed second
    → clash o (compose first second) ≡ (clash o first || clash o second)

-- A clash has a named part, and nothing else has.
abbrev pub ClashesHaveParts : Type 0
ClashesHaveParts = (o : Obs) (d : Delta) → kind_observed o ≡ kind_changed d → is_some (named o d) ≡ clash o d

-- The named part alone, as the delta of one operation, clashes too.
abbrev pub PartsClashAlone : Type 0
PartsClashAlone = (o : Obs) (d : Delta) (w : WriteOp) → named o d ≡ Some w → clash o (delta_of w) ≡ true

-- A read rests on what it observes: of two values of one kind on which that is the same it answers the same, after the
-- body's own operations, and observes the same. Where these decide it, it answers the same of every two.
abbrev pub ReadsRestOnObservations : Type 0
ReadsRestOnObservations =
    (r : ReadOp) (own : List WriteOp) (v w : Value) → kind_of v ≡ kind_of w
    → (is_decided r own ≡ false → observe (observed r own v) v ≡ observe (observed r own v) w)
    → (answer r (replay own v) ≡ answer r (replay own w)) × (is_decided r own ≡ false → observed r own v ≡ observed r own w)

-- Own operations of one kind may be kept as the one delta that they compose to: it decides a read exactly where they do,
-- where they don't the read observes the same, and it leaves the same value.
abbrev pub ReadsGoByCompositions : Type 0
ReadsGoByCompositions =
    (r : ReadOp) (k : Kind) (own : List WriteOp) (v : Value) → AllByRecursion (λ o. kind_written o ≡ k) own
    → (is_decided_by r (composed_of own) ≡ is_decided r own)
    × (is_decided r own ≡ false → observed_by r (composed_of own) v ≡ observed r own v)
    × (left_by (composed_of own) v ≡ replay own v)
