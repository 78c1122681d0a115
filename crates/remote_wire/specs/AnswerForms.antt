-- What of answers has a spelling.
use Rattle.std.specs.Prelude.{ℕ, ◌<◌, ◌^◌, []}
use Rattle.std.specs.FinMap as map
use Rattle.rdt_types.specs.declared.outcome.Outcome.TheVariants as outcome
use Rattle.rdt_types.specs.declared.value.Value.{Value}
use Rattle.rdt_types.specs.declared.value.Value.TheVariants as value
use Rattle.rdt_types.specs.declared.operation.WriteOp.{WriteOp}
use Rattle.rdt_types.specs.declared.operation.WriteOp.TheVariants as op
use Rattle.abort_witness.specs.declared.witness.Witness.{Witness}
use Rattle.record_code.specs.Forms.{IsShort, AreForms}
use Rattle.record_code.specs.Room.{Always, Both, IsInt, HaveRoom, DeltaHasRoom}
use Rattle.remote_wire.specs.declared.answer.Given.{Given}
use Rattle.remote_wire.specs.declared.answer.Given.TheVariants as given
use Rattle.remote_wire.specs.Forms.{IsOneByte, IsEightBytes, HasShortKey, IsObs}

-- a number of four bytes
abbrev pub IsFourBytes : ℕ → Type 0
IsFourBytes n = n < 2 ^ 32

-- a value
abbrev pub IsValue : Value → Type 0
IsValue (value.Bool b) = Unit {0}
IsValue (value.Counter n) = IsInt n
IsValue (value.Text text) = IsShort text
IsValue (value.Set texts) = HaveRoom (Both IsShort Always) (map.entries texts)
IsValue (value.Hash fields) = HaveRoom (Both IsShort IsShort) (map.entries fields)
IsValue (value.List items) = HaveRoom IsShort items
IsValue (value.Peak n) = IsInt n

-- a write
abbrev pub IsWrite : WriteOp → Type 0
IsWrite (op.PutBool b) = Unit {0}
IsWrite (op.PutCounter n) = IsInt n
IsWrite (op.AddCounter n) = IsInt n
IsWrite (op.PutText text) = IsShort text
IsWrite (op.SetAdd x) = IsShort x
IsWrite (op.SetRemove x) = IsShort x
IsWrite (op.HashPut f text) = IsShort f × IsShort text
IsWrite (op.HashRemove f) = IsShort f
IsWrite (op.ListPush x) = IsShort x
IsWrite (op.ListRemove x) = IsShort x
IsWrite (op.Raise n) = IsInt n
IsWrite _ = Unit {0}

-- why a commit is refused
pub record IsWitness (witness : Witness) : Type 0 where
  pub key : HasShortKey witness.address
  pub observed : IsObs witness.obs
  pub base : IsEightBytes witness.base
  pub part : IsWrite witness.part
  pub number : IsEightBytes witness.number

-- ---- what is given

-- what is given
abbrev pub IsGiven : Given → Type 0
IsGiven (given.Hello client shards) = IsFourBytes client × IsOneByte shards
IsGiven (given.Read base v) = IsEightBytes base × IsValue v
IsGiven (given.Front front) = IsEightBytes front
IsGiven (given.Number number) = IsEightBytes number
IsGiven (given.Value v) = IsValue v
IsGiven (given.Feed feed) = IsEightBytes feed.to × HaveRoom (Both Always DeltaHasRoom) feed.changes
IsGiven (given.Late number horizon) = IsEightBytes number × IsEightBytes horizon
IsGiven (given.Clash witness) = IsWitness witness
IsGiven (given.Full limit) = IsFourBytes limit
IsGiven (given.Held client number) = IsFourBytes client × IsEightBytes number
IsGiven _ = Unit {0}

-- the deltas of a feed have the forms of those that a body leaves: by rising addresses, each of its address' kind
abbrev pub HasChanges : Given → Type 0
HasChanges (given.Feed feed) = AreForms (outcome.Ok []) feed.changes
HasChanges _ = Unit {0}
