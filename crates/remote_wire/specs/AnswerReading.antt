-- How the parts of answers are read, each in its form.
use Rattle.std.specs.Prelude.{ℕ, List, Some}
use Rattle.std.specs.Int.{w32}
use Rattle.rdt_types.specs.declared.address.Address.{Address}
use Rattle.rdt_types.specs.declared.address.Kind.{Kind}
use Rattle.rdt_types.specs.declared.address.Kind.TheVariants as kind
use Rattle.rdt_types.specs.declared.value.Value.{Value}
use Rattle.rdt_types.specs.declared.value.Value.TheVariants as value
use Rattle.rdt_types.specs.declared.operation.WriteOp.{WriteOp}
use Rattle.rdt_types.specs.declared.operation.WriteOp.TheVariants as op
use Rattle.conflict_table.specs.declared.observation.Obs.{Obs}
use Rattle.abort_witness.specs.declared.witness.Witness.{Witness}
use Rattle.commit_file.specs.declared.version.Version.TheVariants as version
use Rattle.record_code.specs.Fields.{Reader, ◌>>=◌, number_at, int_at, tag_at, truth_at, nothing_at, pair_at, list_at}
use Rattle.record_code.specs.Reading.{kinds_of, short_at, map_at}
use Rattle.remote_wire.specs.declared.answer_tags.WriteTag.{WriteTag}
use Rattle.remote_wire.specs.declared.answer_tags.WriteTag.TheVariants as written
use Rattle.remote_wire.specs.declared.answer_tags.TheConstants.{WRITE_TAGS}
use Rattle.remote_wire.specs.Reading.{made, long_at, place_at, obs_at}

-- a number of four bytes
abbrev pub short_number_at : Reader ℕ
short_number_at = number_at w32

-- ---- values

-- a value, by the byte of its kind
unfoldable pub value_of : Kind → Reader Value
value_of kind.Bool bytes = made value.Bool truth_at bytes
value_of kind.Counter bytes = made value.Counter int_at bytes
value_of kind.Text bytes = made value.Text short_at bytes
value_of kind.Set bytes = made value.Set (map_at nothing_at) bytes
value_of kind.Hash bytes = made value.Hash (map_at short_at) bytes
value_of kind.List bytes = made value.List (list_at short_at) bytes
value_of kind.Peak bytes = made value.Peak int_at bytes

unfoldable pub value_at : Reader Value
value_at bytes = do
  kind ← tag_at (kinds_of version.Two) bytes
  value_of kind.0 kind.1

-- ---- writes

-- a field and the text that is put there
abbrev pub put_of : List ℕ × List ℕ → WriteOp
put_of x = op.HashPut x.0 x.1

-- a write, by the byte of its form
unfoldable pub op_of : WriteTag → Reader WriteOp
op_of written.PutBool bytes = made op.PutBool truth_at bytes
op_of written.PutCounter bytes = made op.PutCounter int_at bytes
op_of written.AddCounter bytes = made op.AddCounter int_at bytes
op_of written.PutText bytes = made op.PutText short_at bytes
op_of written.SetAdd bytes = made op.SetAdd short_at bytes
op_of written.SetRemove bytes = made op.SetRemove short_at bytes
op_of written.SetClear bytes = Some (op.SetClear, bytes)
op_of written.HashPut bytes = made put_of (pair_at short_at short_at) bytes
op_of written.HashRemove bytes = made op.HashRemove short_at bytes
op_of written.HashClear bytes = Some (op.HashClear, bytes)
op_of written.ListPush bytes = made op.ListPush short_at bytes
op_of written.ListRemove bytes = made op.ListRemove short_at bytes
op_of written.ListClear bytes = Some (op.ListClear, bytes)
op_of written.Raise bytes = made op.Raise int_at bytes

unfoldable pub op_at : Reader WriteOp
op_at bytes = do
  tag ← tag_at WRITE_TAGS bytes
  op_of tag.0 tag.1

-- ---- witnesses

-- an address, what was observed there, the base, the write that clashes, and the number of its commit
abbrev pub witness_of : Address × (Obs × (ℕ × (WriteOp × ℕ))) → Witness
witness_of x =
    record { address = x.0; obs = x.1.0; base = x.1.1.0; part = x.1.1.1.0; number = x.1.1.1.1 }

unfoldable pub witness_at : Reader Witness
witness_at = made witness_of (pair_at place_at (pair_at obs_at (pair_at long_at (pair_at op_at long_at))))
