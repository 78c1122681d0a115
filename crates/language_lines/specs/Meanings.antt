-- What the rows of `Operations` mean: each column from those before it.
use Rattle.std.specs.Prelude.{◌≡◌, Bool, true, List, [], ◌∷◌, map, codes, pos, negsuc, Some}
use Rattle.std.specs.List.{list_all}
use Rattle.rdt_types.specs.declared.operation.WriteOp.TheVariants as op
use Rattle.rdt_types.specs.declared.outcome.Item.{Item}
use Rattle.rdt_types.specs.declared.outcome.Item.TheVariants as item
use Rattle.rdt_types.specs.declared.value.Value.TheVariants as value
use Rattle.rdt_types.specs.Values.{kind_written, kind_of}
use Rattle.rdt_types.specs.Deltas.{delta_of, kind_changed}
use Rattle.dtext.specs.Printing.{printed_part}
use Rattle.conflict_table.specs.declared.observation.Obs.TheVariants as obs
use Rattle.conflict_table.specs.declared.read.ReadOp.TheVariants as read
use Rattle.conflict_table.specs.Observing.{kind_observed}
use Rattle.conflict_table.specs.Reads.{is_decided, observed}
use Rattle.conflict_table.specs.Clashes.{clash}
use Rattle.txn_lang.specs.declared.item_type.Type.{«Type» as ItemType}
use Rattle.txn_lang.specs.declared.item_type.Type.TheVariants as type
use Rattle.txn_lang.specs.Items.{read_of, write_of}
use Rattle.txn_lang.specs.Types.{same, written_type, asked_type, answered_type}
use Rattle.language_lines.specs.Tables.{Holds}
use Rattle.language_lines.specs.Operations.{Argument, writes, reads, writes_of}

-- the items of arguments
abbrev pub items : List Argument → List Item
items arguments = map (λ argument. argument.1) arguments

-- the type of an item
abbrev pub type_of : Item → ItemType
type_of (item.Int n) = type.Int
type_of (item.Bool b) = type.Bool
type_of (item.Text t) = type.Text
type_of (item.Texts ts) = type.Texts

-- whether arguments are all of a type
abbrev pub are_of : ItemType → List Argument → Bool
are_of t arguments = list_all (λ argument. same (type_of argument.1) t) arguments

-- ---- writes

-- arguments are of the type that the kind takes
abbrev pub WritesTake : Type 0
WritesTake = map (λ w. are_of (written_type w.kind) w.arguments) writes ≡ map (λ w. true) writes

-- the operation that a word and its arguments are
abbrev pub WritesMean : Type 0
WritesMean = map (λ w. write_of w.kind w.word (items w.arguments)) writes ≡ map (λ w. Some w.operation) writes

-- it is of the kind
abbrev pub WritesAreOfKinds : Type 0
WritesAreOfKinds = map (λ w. kind_written w.operation) writes ≡ map (λ w. w.kind) writes

-- how it is printed
abbrev pub WritesArePrinted : Type 0
WritesArePrinted = map (λ w. printed_part w.operation) writes ≡ map (λ w. w.part) writes

-- its delta, which is of the kind, too
abbrev pub WritesHaveDeltas : Type 0
WritesHaveDeltas = map (λ w. delta_of w.operation) writes ≡ map (λ w. w.delta) writes

-- the kind of that
abbrev pub DeltasAreOfKinds : Type 0
DeltasAreOfKinds = map (λ w. kind_changed w.delta) writes ≡ map (λ w. w.kind) writes

-- ---- reads

-- arguments are of the type that the word asks for
abbrev pub ReadsTake : Type 0
ReadsTake = map (λ r. are_of (asked_type r.word) r.arguments) reads ≡ map (λ r. true) reads

-- the operation that a word and its arguments are
abbrev pub ReadsMean : Type 0
ReadsMean = map (λ r. read_of r.kind r.word (items r.arguments)) reads ≡ map (λ r. r.operation) reads

-- the type of what it answers
abbrev pub ReadsAnswerTypes : Type 0
ReadsAnswerTypes = map (λ r. answered_type r.kind r.word) reads ≡ map (λ r. r.answers) reads

-- what is observed of the value, by a body that wrote nothing
abbrev pub ReadsObserve : Type 0
ReadsObserve = map (λ r. observed r.operation [] r.value) reads ≡ map (λ r. r.observed) reads

-- the observation is of the kind, and so is the value
abbrev pub ObservationsAreOfKinds : Type 0
ObservationsAreOfKinds = map (λ r. kind_observed r.observed) reads ≡ map (λ r. r.kind) reads

-- the kind of that
abbrev pub ValuesAreOfKinds : Type 0
ValuesAreOfKinds = map (λ r. kind_of r.value) reads ≡ map (λ r. r.kind) reads

-- which of the kind's writes, made before by the same body, decide it
abbrev pub OwnWritesDecide : Type 0
OwnWritesDecide = map (λ r. map (λ w. is_decided r.operation (w.operation ∷ [])) (writes_of r.kind)) reads ≡ map (λ r. r.decided) reads

-- which of the kind's writes, made by somebody else, clash with what was observed
abbrev pub WritesClash : Type 0
WritesClash = map (λ r. map (λ w. clash r.observed w.delta) (writes_of r.kind)) reads ≡ map (λ r. r.clashes) reads

-- there is nothing at a negative place, so it is decided
abbrev pub NegativePlacesAreDecided : Type 0
NegativePlacesAreDecided = Holds (λ i. is_decided (read.ListAt i) []) ((negsuc 0, true) ∷ (negsuc 6, true) ∷ [])

-- Behind own writes the place 0 of the list of one item is observed alone, unless one of them takes items out.
abbrev pub PlacesAreObserved : Type 0
PlacesAreObserved =
    Holds (λ own. observed (read.ListAt (pos 0)) own (value.List (codes "p" ∷ [])))
    ((op.ListPush (codes "q") ∷ [], obs.ListAt 0)
    ∷ (op.ListRemove (codes "q") ∷ [], obs.ListAll)
    ∷ (op.ListPush (codes "q") ∷ op.ListRemove (codes "q") ∷ [], obs.ListAll)
    ∷ [])
