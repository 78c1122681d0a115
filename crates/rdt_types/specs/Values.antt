-- Values, and the operations that write them.
use Rattle.std.specs.Prelude.{◌≡◌, ℤ, pos, negsuc, Bool, false, not, List, [], ◌∷◌, ◌++◌, refl}
use Rattle.std.specs.Int.{w64, int_wrapping_add, int_max}
use Rattle.std.specs.List.{filter}
use Rattle.std.specs.Ordering.{eq_by_cmp}
use Rattle.std.specs.FinMap as map
use Rattle.plain_data.specs.Texts.{Bytes, text_cmp, MapOf, SetOfTexts, with_text, without_text}
use Rattle.rdt_types.specs.declared.address.Kind.{Kind}
use Rattle.rdt_types.specs.declared.address.Kind.TheVariants as kind
use Rattle.rdt_types.specs.declared.value.Value.{Value}
use Rattle.rdt_types.specs.declared.value.Value.TheVariants as value
use Rattle.rdt_types.specs.declared.operation.WriteOp.{WriteOp}
use Rattle.rdt_types.specs.declared.operation.WriteOp.TheVariants as op

-- a sum of 64-bit numbers, which wraps
abbrev pub wrapping_sum : ℤ → ℤ → ℤ
wrapping_sum a b = int_wrapping_add w64 a b

-- the value of an address that was never written
abbrev pub default_of : Kind → Value
default_of kind.Bool = value.Bool false
default_of kind.Counter = value.Counter (pos 0)
default_of kind.Text = value.Text []
default_of kind.Set = value.Set map.empty
default_of kind.Hash = value.Hash map.empty
default_of kind.List = value.List []
default_of kind.Peak = value.Peak (pos 0)

-- the kind of a value
abbrev pub kind_of : Value → Kind
kind_of (value.Bool b) = kind.Bool
kind_of (value.Counter n) = kind.Counter
kind_of (value.Text t) = kind.Text
kind_of (value.Set s) = kind.Set
kind_of (value.Hash m) = kind.Hash
kind_of (value.List items) = kind.List
kind_of (value.Peak n) = kind.Peak

-- the kind that an operation writes
abbrev pub kind_written : WriteOp → Kind
kind_written (op.PutBool b) = kind.Bool
kind_written (op.PutCounter n) = kind.Counter
kind_written (op.AddCounter n) = kind.Counter
kind_written (op.PutText t) = kind.Text
kind_written (op.SetAdd x) = kind.Set
kind_written (op.SetRemove x) = kind.Set
kind_written op.SetClear = kind.Set
kind_written (op.HashPut f t) = kind.Hash
kind_written (op.HashRemove f) = kind.Hash
kind_written op.HashClear = kind.Hash
kind_written (op.ListPush x) = kind.List
kind_written (op.ListRemove x) = kind.List
kind_written op.ListClear = kind.List
kind_written (op.Raise n) = kind.Peak

-- What a value holds, by its kind. Of a value of another kind that is what a default holds: no operation meets one.
abbrev pub bool_in : Value → Bool
bool_in (value.Bool b) = b
bool_in _ = false

-- the number of a counter
abbrev pub counter_in : Value → ℤ
counter_in (value.Counter n) = n
counter_in _ = pos 0

-- the bytes of a text
abbrev pub text_in : Value → Bytes
text_in (value.Text t) = t
text_in _ = []

-- the elements of a set
abbrev pub set_in : Value → SetOfTexts
set_in (value.Set s) = s
set_in _ = map.empty

-- the fields of a hash
abbrev pub hash_in : Value → MapOf Bytes
hash_in (value.Hash m) = m
hash_in _ = map.empty

-- the items of a list
abbrev pub list_in : Value → List Bytes
list_in (value.List items) = items
list_in _ = []

-- the number of a peak
abbrev pub peak_in : Value → ℤ
peak_in (value.Peak n) = n
peak_in _ = pos 0

-- the items that aren't equal to a text
abbrev pub others : Bytes → List Bytes → List Bytes
others x items = filter (λ item. not (eq_by_cmp text_cmp item x)) items

-- The value after one operation. A put replaces what was there, and an addition to a counter adds to it. Elements and
-- fields are added, put and removed as of a set and a finite map. A push adds an item at the end, and a remove of a list
-- drops every equal item. A clear leaves nothing. A raise leaves the greater of what was there and its own number.
abbrev pub write : WriteOp → Value → Value
write (op.PutBool b) v = value.Bool b
write (op.PutCounter n) v = value.Counter n
write (op.AddCounter n) v = value.Counter (wrapping_sum (counter_in v) n)
write (op.PutText t) v = value.Text t
write (op.SetAdd x) v = value.Set (with_text (set_in v) x)
write (op.SetRemove x) v = value.Set (without_text (set_in v) x)
write op.SetClear v = value.Set map.empty
write (op.HashPut f t) v = value.Hash (map.insert (hash_in v) f t)
write (op.HashRemove f) v = value.Hash (map.remove (hash_in v) f)
write op.HashClear v = value.Hash map.empty
write (op.ListPush x) v = value.List (list_in v ++ x ∷ [])
write (op.ListRemove x) v = value.List (others x (list_in v))
write op.ListClear v = value.List []
write (op.Raise n) v = value.Peak (int_max (peak_in v) n)

-- adding 1 to the greatest number gives the least
addition-wraps : write (op.AddCounter (pos 1)) (value.Counter (pos 9223372036854775807)) ≡ value.Counter (negsuc 9223372036854775807)
addition-wraps = refl

-- a remove of a list drops every equal item
remove-drops-all : write (op.ListRemove (1 ∷ [])) (value.List ((1 ∷ []) ∷ (2 ∷ []) ∷ (1 ∷ []) ∷ [])) ≡ value.List ((2 ∷ []) ∷ [])
remove-drops-all = refl

-- a raise goes up, and never down
raise-goes-up : write (op.Raise (pos 7)) (value.Peak (pos 5)) ≡ value.Peak (pos 7)
raise-goes-up = refl

raise-never-lowers : write (op.Raise (pos 3)) (value.Peak (pos 5)) ≡ value.Peak (pos 5)
raise-never-lowers = refl

-- an address that was never written holds 0, so a raise below it leaves 0
raise-below-0 : write (op.Raise (negsuc 4)) (default_of kind.Peak) ≡ value.Peak (pos 0)
raise-below-0 = refl
