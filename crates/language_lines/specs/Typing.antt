-- The rules of typing, by tables: what each operator and each form takes, and at which column it is refused.
use Rattle.std.specs.Prelude.{ℕ, List, [], ◌∷◌, filter, Ok, Err}
use Rattle.rdt_types.specs.declared.address.Kind.TheVariants as kind
use Rattle.txn_trees.specs.declared.expression.ExprNode.TheOpen.{ExprNode-F}
use Rattle.txn_trees.specs.declared.word.Operator.TheVariants as operator
use Rattle.txn_trees.specs.declared.word.Relation.TheVariants as relation
use Rattle.txn_trees.specs.declared.word.ReadWord.TheVariants as read_word
use Rattle.txn_lang.specs.declared.item_type.Type.{«Type» as ItemType}
use Rattle.txn_lang.specs.declared.item_type.Type.TheVariants as type
use Rattle.txn_lang.specs.Types.{takes, may_begin, may_compare}
use Rattle.txn_lang.specs.Typing.{Judged, Typed, judge_node}
use Rattle.language_lines.specs.Tables.{Holds}

-- the four types
abbrev pub types : List ItemType
types = type.Int ∷ type.Bool ∷ type.Text ∷ type.Texts ∷ []

-- what an operator takes on both its sides
abbrev pub OperatorsTake : Type 0
OperatorsTake =
    Holds (λ o. filter (takes o) types)
    ((operator.Or, type.Bool ∷ [])
    ∷ (operator.And, type.Bool ∷ [])
    ∷ (operator.Plus, type.Int ∷ type.Text ∷ [])
    ∷ (operator.Minus, type.Int ∷ [])
    ∷ (operator.Times, type.Int ∷ [])
    ∷ [])

-- what may stand before it: of a text before `-` it is the right side that is refused
abbrev pub OperatorsBegin : Type 0
OperatorsBegin =
    Holds (λ o. filter (may_begin o) types)
    ((operator.Or, type.Bool ∷ [])
    ∷ (operator.And, type.Bool ∷ [])
    ∷ (operator.Plus, type.Int ∷ type.Text ∷ [])
    ∷ (operator.Minus, type.Int ∷ type.Text ∷ [])
    ∷ (operator.Times, type.Int ∷ [])
    ∷ [])

-- what a comparison takes on its left side; the right one is of the same type
abbrev pub ComparisonsTake : Type 0
ComparisonsTake =
    Holds (λ r. filter (may_compare r) types)
    ((relation.Equal, type.Int ∷ type.Bool ∷ type.Text ∷ [])
    ∷ (relation.Unequal, type.Int ∷ type.Bool ∷ type.Text ∷ [])
    ∷ (relation.Less, type.Int ∷ [])
    ∷ (relation.AtMost, type.Int ∷ [])
    ∷ (relation.Greater, type.Int ∷ [])
    ∷ (relation.AtLeast, type.Int ∷ [])
    ∷ [])

-- ---- forms that stand at column 6, by the type of what stands in them

-- an expression of a type, at a column
abbrev pub of_type : ItemType → ℕ → Typed
of_type t column = record { column = column; judged = λ names. Ok t }

-- the form `len(..)`: a text or texts
abbrev pub LenTakes : Type 0
LenTakes =
    Holds (λ t. judge_node (ExprNode-F.Len (of_type t 10)) 6 [])
    ((type.Int, Err 10) ∷ (type.Bool, Err 10) ∷ (type.Text, Ok type.Int) ∷ (type.Texts, Ok type.Int) ∷ [])

-- `str(..)`: an int
abbrev pub StrTakes : Type 0
StrTakes =
    Holds (λ t. judge_node (ExprNode-F.Str (of_type t 10)) 6 [])
    ((type.Int, Ok type.Text) ∷ (type.Bool, Err 10) ∷ (type.Text, Err 10) ∷ (type.Texts, Err 10) ∷ [])

-- a `-` in front: an int
abbrev pub NegativeTakes : Type 0
NegativeTakes =
    Holds (λ t. judge_node (ExprNode-F.Negative (of_type t 7)) 6 [])
    ((type.Int, Ok type.Int) ∷ (type.Bool, Err 7) ∷ (type.Text, Err 7) ∷ (type.Texts, Err 7) ∷ [])

-- `not`: a bool
abbrev pub NotTakes : Type 0
NotTakes =
    Holds (λ t. judge_node (ExprNode-F.Not (of_type t 10)) 6 [])
    ((type.Int, Err 10) ∷ (type.Bool, Ok type.Bool) ∷ (type.Text, Err 10) ∷ (type.Texts, Err 10) ∷ [])

-- `[..]`: texts alone
abbrev pub TextsTake : Type 0
TextsTake =
    Holds (λ t. judge_node (ExprNode-F.Texts (of_type type.Text 7 ∷ of_type t 12 ∷ [])) 6 [])
    ((type.Int, Err 12) ∷ (type.Bool, Err 12) ∷ (type.Text, Ok type.Texts) ∷ (type.Texts, Err 12) ∷ [])

-- the key of a read: a text
abbrev pub KeysTake : Type 0
KeysTake =
    Holds (λ t. judge_node (ExprNode-F.Read kind.Bool (of_type t 11) read_word.Get []) 6 [])
    ((type.Int, Err 11) ∷ (type.Bool, Err 11) ∷ (type.Text, Ok type.Bool) ∷ (type.Texts, Err 11) ∷ [])

-- a sum of three, which stands at column 6
abbrev pub sum_of : ItemType × ItemType × ItemType → Judged ItemType
sum_of (a, b, c) = judge_node (ExprNode-F.Chain (of_type a 6) ((operator.Plus, of_type b 10) ∷ (operator.Minus, of_type c 14) ∷ [])) 6 []

-- a chain: the first operand that is none of its operator's is refused
abbrev pub ChainsTake : Type 0
ChainsTake =
    Holds sum_of
    (((type.Int, type.Int, type.Int), Ok type.Int)
    ∷ ((type.Bool, type.Bool, type.Bool), Err 6)
    ∷ ((type.Int, type.Text, type.Bool), Err 10)
    ∷ ((type.Text, type.Text, type.Text), Err 14)
    ∷ [])
