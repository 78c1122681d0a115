-- What operators and words mean on items, and how large items are.
use Rattle.std.specs.Prelude.{◌≡◌, ℕ, ◌+◌, ◌-◌, ℤ, pos, Bool, true, false, not, ◌||◌, nat_lt, if◌then◌else◌, List, []}
use Rattle.std.specs.Prelude.{◌∷◌, ◌++◌, map, sum, length, Option, Some, None, refl}
use Rattle.std.specs.Int.{w64, int_wrapping_add, int_wrapping_sub, int_wrapping_mul, int_wrapping_neg}
use Rattle.std.specs.Option.{unwrap_or}
use Rattle.std.specs.Ordering.{eq_by_cmp, is_lt, is_gt, int_cmp}
use Rattle.std.specs.Ordering.{int_eq}
use Rattle.std.specs.Bool.{beq}
use Rattle.plain_data.specs.Texts.{Bytes, text_cmp}
use Rattle.rdt_types.specs.declared.address.Kind.{Kind}
use Rattle.rdt_types.specs.declared.address.Kind.TheVariants as kind
use Rattle.rdt_types.specs.declared.operation.WriteOp.{WriteOp}
use Rattle.rdt_types.specs.declared.operation.WriteOp.TheVariants as op
use Rattle.rdt_types.specs.declared.outcome.Item.{Item}
use Rattle.rdt_types.specs.declared.outcome.Item.TheVariants as item
use Rattle.conflict_table.specs.declared.read.ReadOp.{ReadOp}
use Rattle.conflict_table.specs.declared.read.ReadOp.TheVariants as read
use Rattle.txn_trees.specs.declared.word.Operator.{Operator}
use Rattle.txn_trees.specs.declared.word.Operator.TheVariants as operator
use Rattle.txn_trees.specs.declared.word.Relation.{Relation}
use Rattle.txn_trees.specs.declared.word.Relation.TheVariants as relation
use Rattle.txn_trees.specs.declared.word.WriteWord.{WriteWord}
use Rattle.txn_trees.specs.declared.word.WriteWord.TheVariants as write_word
use Rattle.txn_trees.specs.declared.word.ReadWord.{ReadWord}
use Rattle.txn_trees.specs.declared.word.ReadWord.TheVariants as read_word
use Rattle.txn_lang.specs.declared.limits.TheConstants.{TEXT_LIMIT, TEXTS_LIMIT}
use Rattle.txn_lang.specs.Bindings.{bound}

-- What an item holds, by its type. A checked body meets no other type.
abbrev pub int_in : Item → ℤ
int_in (item.Int n) = n
int_in _ = pos 0

-- the truth value of an item
abbrev pub bool_in : Item → Bool
bool_in (item.Bool b) = b
bool_in _ = false

-- its bytes
abbrev pub text_in : Item → Bytes
text_in (item.Text t) = t
text_in _ = []

-- its texts
abbrev pub texts_in : Item → List Bytes
texts_in (item.Texts ts) = ts
texts_in _ = []

-- ---- sizes

-- the limits, with their numbers
TEXT_LIMIT-is : TEXT_LIMIT ≡ 1024
TEXT_LIMIT-is = refl

TEXTS_LIMIT-is : TEXTS_LIMIT ≡ 65536
TEXTS_LIMIT-is = refl

-- the size of texts: of each its bytes, and one more
abbrev pub texts_size : List Bytes → ℕ
texts_size ts = sum (map (λ t. length t + 1) ts)

-- what an item adds to the load where it is emitted
abbrev pub size_of : Item → ℕ
size_of (item.Int n) = 8
size_of (item.Bool b) = 1
size_of (item.Text t) = length t
size_of (item.Texts ts) = texts_size ts

-- whether texts are too large: one of them alone, or all of them together for the room that is left
abbrev pub exceed : ℕ → List Bytes → Bool
exceed room [] = false
exceed room (t ∷ ts) = if nat_lt TEXT_LIMIT (length t) || nat_lt room (length t + 1) then true else exceed (room - (length t + 1)) ts

-- whether a text or texts are above the limits
abbrev pub is_big : Item → Bool
is_big (item.Text t) = nat_lt TEXT_LIMIT (length t)
is_big (item.Texts ts) = exceed TEXTS_LIMIT ts
is_big _ = false

-- ---- names

-- names that are bound, each with what it stands for, the newest last
abbrev pub Names : Type 0
Names = List (Bytes × Item)

-- What a name stands for. A checked body has no name that isn't bound.
abbrev pub named : Names → Bytes → Item
named names x = unwrap_or (bound names x) (item.Int (pos 0))

-- ---- operators

-- `or` stops at what holds, and `and` at what doesn't
abbrev pub decides : Operator → Item → Bool
decides operator.Or v = bool_in v
decides operator.And v = not (bool_in v)
decides _ v = false

-- ints are added and wrap to 64 bits, texts are joined
abbrev pub plus : Item → Item → Item
plus (item.Text a) w = item.Text (a ++ text_in w)
plus v w = item.Int (int_wrapping_add w64 (int_in v) (int_in w))

-- one further operand of a chain
abbrev pub joined : Operator → Item → Item → Item
joined operator.Or v w = w
joined operator.And v w = w
joined operator.Plus v w = plus v w
joined operator.Minus v w = item.Int (int_wrapping_sub w64 (int_in v) (int_in w))
joined operator.Times v w = item.Int (int_wrapping_mul w64 (int_in v) (int_in w))

-- the negative number, in 64 bits
abbrev pub negated : Item → Item
negated v = item.Int (int_wrapping_neg w64 (int_in v))

-- how many bytes a text has, or how many texts a list
abbrev pub length_of : Item → ℕ
length_of (item.Text t) = length t
length_of (item.Texts ts) = length ts
length_of _ = 0

-- whether two items of one type are the same
abbrev pub equals : Item → Item → Bool
equals (item.Text a) (item.Text b) = eq_by_cmp text_cmp a b
equals (item.Bool a) (item.Bool b) = beq a b
equals (item.Int a) (item.Int b) = int_eq a b
equals _ _ = false

-- whether a comparison holds
abbrev pub compares : Relation → Item → Item → Bool
compares relation.Equal v w = equals v w
compares relation.Unequal v w = not (equals v w)
compares relation.Less v w = is_lt (int_cmp (int_in v) (int_in w))
compares relation.AtMost v w = not (is_gt (int_cmp (int_in v) (int_in w)))
compares relation.Greater v w = is_gt (int_cmp (int_in v) (int_in w))
compares relation.AtLeast v w = not (is_lt (int_cmp (int_in v) (int_in w)))

-- ---- words

-- the first argument
abbrev pub first_text : List Item → Bytes
first_text (i ∷ _) = text_in i
first_text [] = []

-- the first argument, as a number
abbrev pub first_int : List Item → ℤ
first_int (i ∷ _) = int_in i
first_int [] = pos 0

-- what a word of a kind reads, with its arguments
abbrev pub read_of : Kind → ReadWord → List Item → ReadOp
read_of kind.Set read_word.Has is = read.SetHas (first_text is)
read_of kind.Set _ is = read.SetAll
read_of kind.Hash read_word.Has is = read.HashHas (first_text is)
read_of kind.Hash read_word.Get is = read.HashGet (first_text is)
read_of kind.Hash _ is = read.HashFields
read_of kind.List read_word.At is = read.ListAt (first_int is)
read_of kind.List _ is = read.ListAll
read_of kind.Peak read_word.Over is = read.PeakOver (first_int is)
read_of kind.Peak _ is = read.Get
read_of kind.Bool _ is = read.Get
read_of kind.Counter _ is = read.Get
read_of kind.Text _ is = read.Get

-- the writes of a set, a hash and a list that take one text
abbrev pub text_write : Kind → WriteWord → Bytes → Option WriteOp
text_write kind.Set write_word.Add x = Some (op.SetAdd x)
text_write kind.Set write_word.Remove x = Some (op.SetRemove x)
text_write kind.Hash write_word.Remove f = Some (op.HashRemove f)
text_write kind.List write_word.Push x = Some (op.ListPush x)
text_write kind.List write_word.Remove x = Some (op.ListRemove x)
text_write _ _ x = None

-- the writes of a counter
abbrev pub counter_write : WriteWord → ℤ → Option WriteOp
counter_write write_word.Put n = Some (op.PutCounter n)
counter_write write_word.Add n = Some (op.AddCounter n)
counter_write _ n = None

-- the clear of a kind that has one
abbrev pub clear_of : Kind → Option WriteOp
clear_of kind.Set = Some op.SetClear
clear_of kind.Hash = Some op.HashClear
clear_of kind.List = Some op.ListClear
clear_of _ = None

-- the write of one argument
abbrev pub write_with : Kind → WriteWord → Item → Option WriteOp
write_with kind.Bool _ i = Some (op.PutBool (bool_in i))
write_with kind.Counter word i = counter_write word (int_in i)
write_with kind.Text _ i = Some (op.PutText (text_in i))
write_with kind.Peak _ i = Some (op.Raise (int_in i))
write_with kind.Set word i = text_write kind.Set word (text_in i)
write_with kind.Hash word i = text_write kind.Hash word (text_in i)
write_with kind.List word i = text_write kind.List word (text_in i)

-- the write of two arguments, which a hash alone has
abbrev pub pair_write : Kind → Bytes → Bytes → Option WriteOp
pair_write kind.Hash f t = Some (op.HashPut f t)
pair_write _ f t = None

-- what a word of a kind writes, with its arguments
abbrev pub write_of : Kind → WriteWord → List Item → Option WriteOp
write_of k word [] = clear_of k
write_of k word (i ∷ []) = write_with k word i
write_of k word (i ∷ j ∷ _) = pair_write k (text_in i) (text_in j)

-- the texts among arguments
abbrev pub text_size : Item → ℕ
text_size (item.Text t) = length t
text_size _ = 0

-- what a read charges besides: one for each element of its answer
abbrev pub elements_in : Item → ℕ
elements_in i = length (texts_in i)
