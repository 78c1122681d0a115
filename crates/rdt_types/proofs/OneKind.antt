-- Two deltas of one kind, kind by kind: laws over two deltas go by this, with no square of kinds.
use Rattle.std.proofs.Common.{◌≡◌, ℤ, Bool, refl}
use Rattle.plain_data.specs.Texts.{Bytes}
use Rattle.rdt_types.specs.declared.mark.Mark.{Mark}
use Rattle.rdt_types.specs.declared.address.Kind.TheVariants as kind
use Rattle.rdt_types.specs.declared.delta.Delta.{Delta}
use Rattle.rdt_types.specs.declared.delta.Delta.TheVariants as delta
use Rattle.rdt_types.specs.declared.operation.WriteOp.{WriteOp}
use Rattle.rdt_types.specs.declared.operation.WriteOp.TheVariants as op
use Rattle.rdt_types.specs.Values.{kind_written}
use Rattle.rdt_types.specs.Keyed.{Keyed}
use Rattle.rdt_types.specs.Listed.{Listed}
use Rattle.rdt_types.specs.Deltas.{kind_changed, delta_of, add_after, set_after, hash_after, list_after, raise_after, compose}

-- a first delta and a second of its kind
pub data OfOneKind : Delta → Delta → Type 0 where
  bools : (b c : Bool) → OfOneKind (delta.PutBool b) (delta.PutBool c)
  puts : (m n : ℤ) → OfOneKind (delta.PutCounter m) (delta.PutCounter n)
  put_then_add : (m n : ℤ) → OfOneKind (delta.PutCounter m) (delta.AddCounter n)
  add_then_put : (m n : ℤ) → OfOneKind (delta.AddCounter m) (delta.PutCounter n)
  adds : (m n : ℤ) → OfOneKind (delta.AddCounter m) (delta.AddCounter n)
  texts : (x y : Bytes) → OfOneKind (delta.PutText x) (delta.PutText y)
  sets : (d e : Keyed Bool) → OfOneKind (delta.Set d) (delta.Set e)
  hashes : (d e : Keyed Mark) → OfOneKind (delta.Hash d) (delta.Hash e)
  lists : (d e : Listed) → OfOneKind (delta.List d) (delta.List e)
  raises : (m n : ℤ) → OfOneKind (delta.Raise m) (delta.Raise n)

-- deltas whose kinds are equal, one row a pair of operations
pub of_one_kind : (first second : Delta) → kind_changed first ≡ kind_changed second → OfOneKind first second
of_one_kind (delta.PutBool b) (delta.PutBool c) same = bools b c
of_one_kind (delta.PutCounter m) (delta.PutCounter n) same = puts m n
of_one_kind (delta.PutCounter m) (delta.AddCounter n) same = put_then_add m n
of_one_kind (delta.AddCounter m) (delta.PutCounter n) same = add_then_put m n
of_one_kind (delta.AddCounter m) (delta.AddCounter n) same = adds m n
of_one_kind (delta.PutText x) (delta.PutText y) same = texts x y
of_one_kind (delta.Set d) (delta.Set e) same = sets d e
of_one_kind (delta.Hash d) (delta.Hash e) same = hashes d e
of_one_kind (delta.List d) (delta.List e) same = lists d e
of_one_kind (delta.Raise m) (delta.Raise n) same = raises m n
of_one_kind first second same = absurd (cc)

-- ---- kinds of deltas
-- the delta of an operation changes values of the kind that the operation writes
pub kind-delta_of : (o : WriteOp) → kind_changed (delta_of o) ≡ kind_written o
kind-delta_of (op.PutBool b) = refl
kind-delta_of (op.PutCounter n) = refl
kind-delta_of (op.AddCounter n) = refl
kind-delta_of (op.PutText t) = refl
kind-delta_of (op.SetAdd x) = refl
kind-delta_of (op.SetRemove x) = refl
kind-delta_of op.SetClear = refl
kind-delta_of (op.HashPut f t) = refl
kind-delta_of (op.HashRemove f) = refl
kind-delta_of op.HashClear = refl
kind-delta_of (op.ListPush x) = refl
kind-delta_of (op.ListRemove x) = refl
kind-delta_of op.ListClear = refl
kind-delta_of (op.Raise n) = refl

-- an addition after any delta is a delta of a counter
kind-add_after : (first : Delta) (n : ℤ) → kind_changed (add_after first n) ≡ kind.Counter
kind-add_after (delta.PutCounter m) n = refl
kind-add_after (delta.AddCounter m) n = refl
kind-add_after first n = refl

-- a delta of a set after any other is one of a set
kind-set_after : (first : Delta) (e : Keyed Bool) → kind_changed (set_after first e) ≡ kind.Set
kind-set_after (delta.Set d) e = refl
kind-set_after first e = refl

-- a delta of a hash after any other is one of a hash
kind-hash_after : (first : Delta) (e : Keyed Mark) → kind_changed (hash_after first e) ≡ kind.Hash
kind-hash_after (delta.Hash d) e = refl
kind-hash_after first e = refl

-- a delta of a list after any other is one of a list
kind-list_after : (first : Delta) (e : Listed) → kind_changed (list_after first e) ≡ kind.List
kind-list_after (delta.List d) e = refl
kind-list_after first e = refl

-- a raise after any delta is a delta of a peak
kind-raise_after : (first : Delta) (n : ℤ) → kind_changed (raise_after first n) ≡ kind.Peak
kind-raise_after (delta.Raise m) n = refl
kind-raise_after first n = refl

-- a composition is of the kind of its second delta
pub kind-compose : (first second : Delta) → kind_changed (compose first second) ≡ kind_changed second
kind-compose first (delta.PutBool b) = refl
kind-compose first (delta.PutCounter n) = refl
kind-compose first (delta.AddCounter n) = kind-add_after first n
kind-compose first (delta.PutText t) = refl
kind-compose first (delta.Set e) = kind-set_after first e
kind-compose first (delta.Hash e) = kind-hash_after first e
kind-compose first (delta.List e) = kind-list_after first e
kind-compose first (delta.Raise n) = kind-raise_after first n
