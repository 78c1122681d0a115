-- The one spelling of each field of a payload, and of a commit. Numbers are big-endian.
use Rattle.std.specs.Prelude.{ℕ, ℤ, Bool, true, false, List, [], ◌∷◌, ◌++◌, length}
use Rattle.std.specs.Int.{w32, w64, to_be_bytes, cast_unsigned}
use Rattle.std.specs.List.{flat_map}
use Rattle.std.specs.FinMap as map
use Rattle.rdt_types.specs.declared.address.Kind.{Kind}
use Rattle.rdt_types.specs.declared.address.Kind.TheVariants as kind
use Rattle.rdt_types.specs.declared.address.Address.{Address}
use Rattle.rdt_types.specs.declared.delta.Delta.{Delta}
use Rattle.rdt_types.specs.declared.delta.Delta.TheVariants as delta
use Rattle.rdt_types.specs.declared.mark.Mark.{Mark}
use Rattle.rdt_types.specs.declared.mark.Mark.TheVariants as mark
use Rattle.rdt_types.specs.declared.outcome.Item.{Item}
use Rattle.rdt_types.specs.declared.outcome.Item.TheVariants as item
use Rattle.rdt_types.specs.declared.outcome.Outcome.{Outcome}
use Rattle.rdt_types.specs.declared.outcome.Outcome.TheVariants as outcome
use Rattle.rdt_types.specs.DeltaMaps.{Deltas}
use Rattle.rdt_types.specs.Keyed.{Keyed}
use Rattle.rdt_types.specs.Listed.{Listed}

-- ---- numbers, texts and lists

-- a number with a sign: eight bytes, in two's complement
abbrev pub int_bytes : ℤ → List ℕ
int_bytes n = to_be_bytes w64 (cast_unsigned w64 n)

-- whether something is so: a byte 1 or 0
abbrev pub truth_bytes : Bool → List ℕ
truth_bytes false = 0 ∷ []
truth_bytes true = 1 ∷ []

-- a text: its length in four bytes, and its bytes
abbrev pub text_bytes : List ℕ → List ℕ
text_bytes text = to_be_bytes w32 (length text) ++ text

-- one thing and then another
abbrev pub pair_bytes : {A B : Type 0} → (A → List ℕ) → (B → List ℕ) → A × B → List ℕ
pair_bytes first second pair = first pair.0 ++ second pair.1

-- a list: how many there are in four bytes, and each of them
abbrev pub list_bytes : {A : Type 0} → (A → List ℕ) → List A → List ℕ
list_bytes each items = to_be_bytes w32 (length items) ++ flat_map each items

-- ---- addresses and deltas

-- a byte for each kind, by their order
abbrev pub kind_byte : Kind → ℕ
kind_byte kind.Bool = 0
kind_byte kind.Counter = 1
kind_byte kind.Text = 2
kind_byte kind.Set = 3
kind_byte kind.Hash = 4
kind_byte kind.List = 5
kind_byte kind.Peak = 6

-- an address: the byte of its kind, and its key
abbrev pub address_bytes : Address → List ℕ
address_bytes address = kind_byte address.kind ∷ text_bytes address.key

-- a mark at a field: a byte 1 and the text that is put, or a byte 0
abbrev pub mark_bytes : Mark → List ℕ
mark_bytes (mark.Put text) = 1 ∷ text_bytes text
mark_bytes mark.Removed = 0 ∷ []

-- where a text alone is marked, nothing stands behind it
abbrev pub nothing_bytes : Unit {0} → List ℕ
nothing_bytes nothing = []

-- the parts of a change of a set or a hash: whether all is cleared, and each text with its mark
abbrev pub keyed_bytes : {M : Type 0} → (M → List ℕ) → Keyed M → List ℕ
keyed_bytes mark d = truth_bytes d.cleared ++ list_bytes (pair_bytes text_bytes mark) (map.entries d.marks)

-- the parts of a change of a list: whether all is cleared, the texts that are taken out, and those that are pushed
abbrev pub listed_bytes : Listed → List ℕ
listed_bytes d =
    truth_bytes d.cleared
    ++ list_bytes (pair_bytes text_bytes nothing_bytes) (map.entries d.removed)
    ++ list_bytes text_bytes d.pushed

-- a byte for each form of a delta
abbrev pub delta_byte : Delta → ℕ
delta_byte (delta.PutBool b) = 0
delta_byte (delta.PutCounter n) = 1
delta_byte (delta.AddCounter n) = 2
delta_byte (delta.PutText text) = 3
delta_byte (delta.Set d) = 4
delta_byte (delta.Hash d) = 5
delta_byte (delta.List d) = 6
delta_byte (delta.Raise n) = 7

-- what a delta of each form says
abbrev pub delta_parts : Delta → List ℕ
delta_parts (delta.PutBool b) = truth_bytes b
delta_parts (delta.PutCounter n) = int_bytes n
delta_parts (delta.AddCounter n) = int_bytes n
delta_parts (delta.PutText text) = text_bytes text
delta_parts (delta.Set d) = keyed_bytes truth_bytes d
delta_parts (delta.Hash d) = keyed_bytes mark_bytes d
delta_parts (delta.List d) = listed_bytes d
delta_parts (delta.Raise n) = int_bytes n

-- a delta: the byte of its form, and what it says
abbrev pub delta_bytes : Delta → List ℕ
delta_bytes d = delta_byte d ∷ delta_parts d

-- deltas: each address with its delta
abbrev pub deltas_bytes : Deltas → List ℕ
deltas_bytes deltas = list_bytes (pair_bytes address_bytes delta_bytes) deltas

-- ---- outcomes

-- a byte for each type of an emitted value
abbrev pub item_byte : Item → ℕ
item_byte (item.Int n) = 0
item_byte (item.Bool b) = 1
item_byte (item.Text text) = 2
item_byte (item.Texts texts) = 3

-- a value of each type
abbrev pub item_parts : Item → List ℕ
item_parts (item.Int n) = int_bytes n
item_parts (item.Bool b) = truth_bytes b
item_parts (item.Text text) = text_bytes text
item_parts (item.Texts texts) = list_bytes text_bytes texts

-- an emitted value: the byte of its type, and the value
abbrev pub item_bytes : Item → List ℕ
item_bytes emitted = item_byte emitted ∷ item_parts emitted

-- a byte for each way in which a body ends
abbrev pub outcome_byte : Outcome → ℕ
outcome_byte (outcome.Ok items) = 0
outcome_byte (outcome.Fail reason) = 1
outcome_byte outcome.Spent = 2
outcome_byte outcome.Big = 3

-- what it emitted, or the reason for which it failed
abbrev pub outcome_parts : Outcome → List ℕ
outcome_parts (outcome.Ok items) = list_bytes item_bytes items
outcome_parts (outcome.Fail reason) = text_bytes reason
outcome_parts _ = []

-- an outcome: how the body ended, and what came of that
abbrev pub outcome_bytes : Outcome → List ℕ
outcome_bytes how = outcome_byte how ∷ outcome_parts how
