-- The one spelling of each part of answers, and of these.
use Rattle.std.specs.Prelude.{ℕ, List, [], ◌∷◌, ◌++◌}
use Rattle.std.specs.Int.{w32, to_be_bytes}
use Rattle.std.specs.FinMap as map
use Rattle.rdt_types.specs.declared.value.Value.{Value}
use Rattle.rdt_types.specs.declared.value.Value.TheVariants as value
use Rattle.rdt_types.specs.declared.operation.WriteOp.{WriteOp}
use Rattle.rdt_types.specs.declared.operation.WriteOp.TheVariants as op
use Rattle.rdt_types.specs.Values.{kind_of}
use Rattle.abort_witness.specs.declared.witness.Witness.{Witness}
use Rattle.record_code.specs.Spelling.{int_bytes, truth_bytes, text_bytes, pair_bytes, list_bytes, nothing_bytes}
use Rattle.record_code.specs.Spelling.{kind_byte, address_bytes, deltas_bytes}
use Rattle.remote_wire.specs.declared.answer.WireAnswer.{WireAnswer}
use Rattle.remote_wire.specs.declared.answer.Given.{Given}
use Rattle.remote_wire.specs.declared.answer.Given.TheVariants as given
use Rattle.remote_wire.specs.Spelling.{byte_bytes, long_bytes, obs_bytes}

-- a number of four bytes
abbrev pub short_bytes : ℕ → List ℕ
short_bytes n = to_be_bytes w32 n

-- ---- values

-- a value of each kind: the pairs of a hash and the elements of a set by rising text
abbrev pub value_parts : Value → List ℕ
value_parts (value.Bool b) = truth_bytes b
value_parts (value.Counter n) = int_bytes n
value_parts (value.Text text) = text_bytes text
value_parts (value.Set texts) = list_bytes (pair_bytes text_bytes nothing_bytes) (map.entries texts)
value_parts (value.Hash fields) = list_bytes (pair_bytes text_bytes text_bytes) (map.entries fields)
value_parts (value.List items) = list_bytes text_bytes items
value_parts (value.Peak n) = int_bytes n

-- a value: the byte of its kind, and what it is
abbrev pub value_bytes : Value → List ℕ
value_bytes v = kind_byte (kind_of v) ∷ value_parts v

-- ---- writes

-- a byte for each form of a write, by their order
abbrev pub op_byte : WriteOp → ℕ
op_byte (op.PutBool b) = 0
op_byte (op.PutCounter n) = 1
op_byte (op.AddCounter n) = 2
op_byte (op.PutText text) = 3
op_byte (op.SetAdd x) = 4
op_byte (op.SetRemove x) = 5
op_byte op.SetClear = 6
op_byte (op.HashPut f text) = 7
op_byte (op.HashRemove f) = 8
op_byte op.HashClear = 9
op_byte (op.ListPush x) = 10
op_byte (op.ListRemove x) = 11
op_byte op.ListClear = 12
op_byte (op.Raise n) = 13

-- what it is made of
abbrev pub op_parts : WriteOp → List ℕ
op_parts (op.PutBool b) = truth_bytes b
op_parts (op.PutCounter n) = int_bytes n
op_parts (op.AddCounter n) = int_bytes n
op_parts (op.PutText text) = text_bytes text
op_parts (op.SetAdd x) = text_bytes x
op_parts (op.SetRemove x) = text_bytes x
op_parts (op.HashPut f text) = text_bytes f ++ text_bytes text
op_parts (op.HashRemove f) = text_bytes f
op_parts (op.ListPush x) = text_bytes x
op_parts (op.ListRemove x) = text_bytes x
op_parts (op.Raise n) = int_bytes n
op_parts _ = []

-- a write
abbrev pub op_bytes : WriteOp → List ℕ
op_bytes w = op_byte w ∷ op_parts w

-- ---- witnesses

-- why a commit is refused
abbrev pub witness_bytes : Witness → List ℕ
witness_bytes w =
    address_bytes w.address
    ++ (obs_bytes w.obs ++ (long_bytes w.base ++ (op_bytes w.part ++ long_bytes w.number)))

-- ---- answers

-- a byte for each way to answer
abbrev pub given_byte : Given → ℕ
given_byte (given.Late number horizon) = 1
given_byte (given.Clash witness) = 2
given_byte (given.Full limit) = 3
given_byte given.Disk = 4
given_byte (given.Held client number) = 5
given_byte _ = 0

-- what is given
abbrev pub given_parts : Given → List ℕ
given_parts (given.Hello client shards) = short_bytes client ++ byte_bytes shards
given_parts (given.Read base v) = long_bytes base ++ value_bytes v
given_parts (given.Front front) = long_bytes front
given_parts (given.Number number) = long_bytes number
given_parts (given.Value v) = value_bytes v
given_parts (given.Feed feed) = long_bytes feed.to ++ deltas_bytes feed.changes
given_parts (given.Late number horizon) = long_bytes number ++ long_bytes horizon
given_parts (given.Clash witness) = witness_bytes witness
given_parts (given.Full limit) = short_bytes limit
given_parts (given.Held client number) = short_bytes client ++ long_bytes number
given_parts _ = []

-- an answer: how the request is answered, what the client has seen, and what is given
abbrev pub answer_bytes : WireAnswer → List ℕ
answer_bytes a = given_byte a.given ∷ (long_bytes a.seen ++ given_parts a.given)
