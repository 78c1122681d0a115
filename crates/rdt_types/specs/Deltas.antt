-- Deltas: what a list of operations at one address comes to.
use Rattle.std.specs.Prelude.{◌≡◌, ℤ, pos, negsuc, [], codes, Bool, true, false, Option, Some, None, refl}
use Rattle.std.specs.Int.{int_max}
use Rattle.rdt_types.specs.declared.address.Kind.{Kind}
use Rattle.rdt_types.specs.declared.address.Kind.TheVariants as kind
use Rattle.rdt_types.specs.declared.value.Value.{Value}
use Rattle.rdt_types.specs.declared.value.Value.TheVariants as value
use Rattle.rdt_types.specs.declared.mark.Mark.{Mark}
use Rattle.rdt_types.specs.declared.mark.Mark.TheVariants as mark
use Rattle.rdt_types.specs.declared.operation.WriteOp.{WriteOp}
use Rattle.rdt_types.specs.declared.operation.WriteOp.TheVariants as op
use Rattle.rdt_types.specs.declared.delta.Delta.{Delta}
use Rattle.rdt_types.specs.declared.delta.Delta.TheVariants as delta
use Rattle.rdt_types.specs.Values.{write, wrapping_sum, counter_in, set_in, hash_in, list_in, peak_in}
use Rattle.rdt_types.specs.Marks.{added, put_by}
use Rattle.rdt_types.specs.Keyed as keyed
use Rattle.rdt_types.specs.Keyed.{Keyed}
use Rattle.rdt_types.specs.Listed as listed
use Rattle.rdt_types.specs.Listed.{Listed}

-- the kind of the values that a delta changes
abbrev pub kind_changed : Delta → Kind
kind_changed (delta.PutBool b) = kind.Bool
kind_changed (delta.PutCounter n) = kind.Counter
kind_changed (delta.AddCounter n) = kind.Counter
kind_changed (delta.PutText t) = kind.Text
kind_changed (delta.Set d) = kind.Set
kind_changed (delta.Hash d) = kind.Hash
kind_changed (delta.List d) = kind.List
kind_changed (delta.Raise n) = kind.Peak

-- the delta of one operation
abbrev pub delta_of : WriteOp → Delta
delta_of (op.PutBool b) = delta.PutBool b
delta_of (op.PutCounter n) = delta.PutCounter n
delta_of (op.AddCounter n) = delta.AddCounter n
delta_of (op.PutText t) = delta.PutText t
delta_of (op.SetAdd x) = delta.Set (keyed.marking x true)
delta_of (op.SetRemove x) = delta.Set (keyed.marking x false)
delta_of op.SetClear = delta.Set keyed.clearing
delta_of (op.HashPut f t) = delta.Hash (keyed.marking f (mark.Put t))
delta_of (op.HashRemove f) = delta.Hash (keyed.marking f mark.Removed)
delta_of op.HashClear = delta.Hash keyed.clearing
delta_of (op.ListPush x) = delta.List (listed.pushing x)
delta_of (op.ListRemove x) = delta.List (listed.removing x)
delta_of op.ListClear = delta.List listed.clearing
delta_of (op.Raise n) = delta.Raise n

-- the value after a delta
abbrev pub apply : Delta → Value → Value
apply (delta.PutBool b) v = value.Bool b
apply (delta.PutCounter n) v = value.Counter n
apply (delta.AddCounter n) v = value.Counter (wrapping_sum (counter_in v) n)
apply (delta.PutText t) v = value.Text t
apply (delta.Set d) v = value.Set (keyed.applied added d (set_in v))
apply (delta.Hash d) v = value.Hash (keyed.applied put_by d (hash_in v))
apply (delta.List d) v = value.List (listed.applied d (list_in v))
apply (delta.Raise n) v = value.Peak (int_max (peak_in v) n)

-- the value after a delta that may be there
abbrev pub apply_maybe : Option Delta → Value → Value
apply_maybe None value = value
apply_maybe (Some delta) value = apply delta value

-- an addition after a delta of a counter: it goes into what is there, and two additions stay one, also where their sum is 0
abbrev pub add_after : Delta → ℤ → Delta
add_after (delta.PutCounter m) n = delta.PutCounter (wrapping_sum m n)
add_after (delta.AddCounter m) n = delta.AddCounter (wrapping_sum m n)
add_after first n = delta.AddCounter n

-- a delta of a set, a hash or a list after one of its kind
abbrev pub set_after : Delta → Keyed Bool → Delta
set_after (delta.Set d) e = delta.Set (keyed.composed added d e)
set_after first e = delta.Set e

-- a delta of a hash after another
abbrev pub hash_after : Delta → Keyed Mark → Delta
hash_after (delta.Hash d) e = delta.Hash (keyed.composed put_by d e)
hash_after first e = delta.Hash e

-- a delta of a list after another
abbrev pub list_after : Delta → Listed → Delta
list_after (delta.List d) e = delta.List (listed.composed d e)
list_after first e = delta.List e

-- a raise after another: the greater of the two
abbrev pub raise_after : Delta → ℤ → Delta
raise_after (delta.Raise m) n = delta.Raise (int_max m n)
raise_after first n = delta.Raise n

-- The delta that does the first and then the second, which are of one kind. A put forgets what was before it.
abbrev pub compose : Delta → Delta → Delta
compose first (delta.PutBool b) = delta.PutBool b
compose first (delta.PutCounter n) = delta.PutCounter n
compose first (delta.AddCounter n) = add_after first n
compose first (delta.PutText t) = delta.PutText t
compose first (delta.Set e) = set_after first e
compose first (delta.Hash e) = hash_after first e
compose first (delta.List e) = list_after first e
compose first (delta.Raise n) = raise_after first n

-- the delta of an operation, applied, is the operation
abbrev pub DeltasWrite : Type 0
DeltasWrite = (o : WriteOp) (v : Value) → apply (delta_of o) v ≡ write o v

-- a composition of two deltas of one kind, applied, is one delta after the other
abbrev pub CompositionsApplyInTurn : Type 0
CompositionsApplyInTurn =
    (first second : Delta) (v : Value) → kind_changed first ≡ kind_changed second → apply (compose first second) v ≡ apply second (apply first v)

-- of three deltas of one kind it is one which two are composed first
abbrev pub CompositionsAssociate : Type 0
CompositionsAssociate =
    (first second third : Delta) → kind_changed first ≡ kind_changed second → kind_changed second ≡ kind_changed third
    → compose (compose first second) third ≡ compose first (compose second third)

-- putting 7 and then adding 1 is putting 8
put-then-add : compose (delta.PutCounter (pos 7)) (delta.AddCounter (pos 1)) ≡ delta.PutCounter (pos 8)
put-then-add = refl

-- putting the greatest number and then adding 1 is putting the least
put-then-add-wraps : compose (delta.PutCounter (pos 9223372036854775807)) (delta.AddCounter (pos 1)) ≡ delta.PutCounter (negsuc 9223372036854775807)
put-then-add-wraps = refl

-- adding 3 and then taking 3 away is an addition of 0, and no delta of none
up-then-down : compose (delta.AddCounter (pos 3)) (delta.AddCounter (negsuc 2)) ≡ delta.AddCounter (pos 0)
up-then-down = refl

-- putting a field and then clearing is clearing
put-then-clear : compose (delta_of (op.HashPut (codes "f") [])) (delta_of op.HashClear) ≡ delta.Hash keyed.clearing
put-then-clear = refl

-- two raises are the higher one, in whichever order
higher-raise-last : compose (delta.Raise (pos 3)) (delta.Raise (pos 7)) ≡ delta.Raise (pos 7)
higher-raise-last = refl

higher-raise-first : compose (delta.Raise (pos 7)) (delta.Raise (pos 3)) ≡ delta.Raise (pos 7)
higher-raise-first = refl
