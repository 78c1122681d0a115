-- Types, and which of them the operations of the language take and give.
use Rattle.std.specs.Prelude.{Bool, true, false, ◌||◌, List, Option}
use Rattle.plain_data.specs.Texts.{Bytes}
use Rattle.txn_lang.specs.Bindings.{bound}
use Rattle.rdt_types.specs.declared.address.Kind.{Kind}
use Rattle.rdt_types.specs.declared.address.Kind.TheVariants as kind
use Rattle.txn_trees.specs.declared.word.Operator.{Operator}
use Rattle.txn_trees.specs.declared.word.Operator.TheVariants as operator
use Rattle.txn_trees.specs.declared.word.Relation.{Relation}
use Rattle.txn_trees.specs.declared.word.Relation.TheVariants as relation
use Rattle.txn_trees.specs.declared.word.ReadWord.{ReadWord}
use Rattle.txn_trees.specs.declared.word.ReadWord.TheVariants as read_word
use Rattle.txn_lang.specs.declared.item_type.Type.{«Type» as ItemType}
use Rattle.txn_lang.specs.declared.item_type.Type.TheVariants as type

-- whether two types are one
abbrev pub same : ItemType → ItemType → Bool
same type.Int type.Int = true
same type.Bool type.Bool = true
same type.Text type.Text = true
same type.Texts type.Texts = true
same _ _ = false

-- ---- names

-- names that are bound, each with its type, the newest last
abbrev pub Names : Type 0
Names = List (Bytes × ItemType)

-- the type of a name, if it is bound
abbrev pub type_bound : Names → Bytes → Option ItemType
type_bound names x = bound names x

-- ---- operations

-- what `len` takes
abbrev pub has_length : ItemType → Bool
has_length type.Text = true
has_length type.Texts = true
has_length _ = false

-- what can be joined or added
abbrev pub has_sum : ItemType → Bool
has_sum type.Int = true
has_sum type.Text = true
has_sum _ = false

-- The left side of a comparison. Ints, bools and texts are equal or not; ints alone have an order.
abbrev pub may_compare : Relation → ItemType → Bool
may_compare relation.Equal t = has_sum t || same t type.Bool
may_compare relation.Unequal t = has_sum t || same t type.Bool
may_compare _ t = same t type.Int

-- what an operator takes, on both its sides
abbrev pub takes : Operator → ItemType → Bool
takes operator.Or t = same t type.Bool
takes operator.And t = same t type.Bool
takes operator.Plus t = has_sum t
takes operator.Minus t = same t type.Int
takes operator.Times t = same t type.Int

-- What may stand before an operator. A text may stand before a minus: the fault is then in what follows it.
abbrev pub may_begin : Operator → ItemType → Bool
may_begin operator.Minus t = has_sum t
may_begin o t = takes o t

-- what the arguments of a write are, by its kind: text, but for what a bool, a counter or a peak takes
abbrev pub written_type : Kind → ItemType
written_type kind.Bool = type.Bool
written_type kind.Counter = type.Int
written_type kind.Peak = type.Int
written_type kind.Text = type.Text
written_type kind.Set = type.Text
written_type kind.Hash = type.Text
written_type kind.List = type.Text

-- what the arguments of a read are: text, but for the place of an item, and for what a peak is held against
abbrev pub asked_type : ReadWord → ItemType
asked_type read_word.At = type.Int
asked_type read_word.Over = type.Int
asked_type _ = type.Text

-- what a read answers
abbrev pub answered_type : Kind → ReadWord → ItemType
answered_type kind.Bool read_word.Get = type.Bool
answered_type kind.Counter read_word.Get = type.Int
answered_type kind.Peak read_word.Get = type.Int
answered_type _ read_word.Get = type.Text
answered_type _ read_word.Has = type.Bool
answered_type _ read_word.All = type.Texts
answered_type _ read_word.Fields = type.Texts
answered_type _ read_word.At = type.Text
answered_type _ read_word.Over = type.Bool
