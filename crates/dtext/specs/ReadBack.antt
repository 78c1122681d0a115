-- What is printed reads back.
use Rattle.std.specs.List.{All}
use Rattle.plain_data.specs.Texts.{Bytes}
use Rattle.rdt_types.specs.declared.address.Address.{Address}
use Rattle.rdt_types.specs.declared.outcome.Item.{Item}
use Rattle.rdt_types.specs.declared.outcome.Item.TheVariants as item
use Rattle.rdt_types.specs.declared.outcome.Outcome.{Outcome}
use Rattle.rdt_types.specs.declared.outcome.Outcome.TheVariants as outcome
use Rattle.rdt_types.specs.declared.operation.WriteOp.{WriteOp}
use Rattle.rdt_types.specs.declared.operation.WriteOp.TheVariants as op
use Rattle.rdt_types.specs.Printed.{printed_text, printed_address}
use Rattle.dtext.specs.Printing.{printed_item, printed_outcome, printed_part}
use Rattle.dtext.specs.Spellings.{Fits64, IsText, IsAddress, IsItem, IsOutcome, IsPart, PartOf}
use Rattle.predictive_parsing.specs.Rules.{Whole}
use Rattle.rdt_types.specs.Values.{kind_written}

-- the numbers in it are of 64 bits, as those of every value that a program holds
abbrev pub FitsItem : Item → Type 0
FitsItem (item.Int n) = Fits64 n
FitsItem other = Unit {0}

-- each value of an outcome
abbrev pub FitsOutcome : Outcome → Type 0
FitsOutcome (outcome.Ok items) = All FitsItem items
FitsOutcome other = Unit {0}

-- the number of a part
abbrev pub FitsPart : WriteOp → Type 0
FitsPart (op.PutCounter n) = Fits64 n
FitsPart (op.AddCounter n) = Fits64 n
FitsPart (op.Raise n) = Fits64 n
FitsPart other = Unit {0}

-- What a part is read as where no address beside it says its kind: a removal and a clear are a set's.
abbrev pub read_alone : WriteOp → WriteOp
read_alone (op.HashRemove field) = op.SetRemove field
read_alone (op.ListRemove element) = op.SetRemove element
read_alone op.HashClear = op.SetClear
read_alone op.ListClear = op.SetClear
read_alone other = other

-- texts
abbrev pub TextsReadBack : Type 0
TextsReadBack = (text : Bytes) → IsText (printed_text text) text

-- addresses
abbrev pub AddressesReadBack : Type 0
AddressesReadBack = (address : Address) → IsAddress (printed_address address) address

-- values
abbrev pub ItemsReadBack : Type 0
ItemsReadBack = (item : Item) → FitsItem item → IsItem (printed_item item) item

-- outcomes
abbrev pub OutcomesReadBack : Type 0
OutcomesReadBack = (outcome : Outcome) → FitsOutcome outcome → IsOutcome (printed_outcome outcome) outcome

-- parts, as they are read alone
abbrev pub PartsReadBack : Type 0
PartsReadBack = (part : WriteOp) → FitsPart part → IsPart (printed_part part) (read_alone part)

-- parts, as they are read beside an address of their kind
abbrev pub PartsOfKindsReadBack : Type 0
PartsOfKindsReadBack = (part : WriteOp) → FitsPart part → Whole (PartOf (kind_written part)) (printed_part part) part
