-- What operators and words mean on items.
use Rattle.std.specs.Prelude.{ℕ, true, false, [], ◌∷◌, codes, pos, negsuc}
use Rattle.rdt_types.specs.declared.outcome.Item.{Item}
use Rattle.rdt_types.specs.declared.outcome.Item.TheVariants as item
use Rattle.txn_trees.specs.declared.word.Operator.TheVariants as operator
use Rattle.txn_trees.specs.declared.word.Relation.TheVariants as relation
use Rattle.txn_lang.specs.Items.{decides, joined, negated, length_of, compares}
use Rattle.language_lines.specs.Tables.{Holds}

-- an int that isn't negative
abbrev int : ℕ → Item
int n = item.Int (pos n)

-- the greatest number, and the least
abbrev pub greatest : Item
greatest = int 9223372036854775807

-- 64 bits hold one negative number more
abbrev pub least : Item
least = item.Int (negsuc 9223372036854775807)

-- ints are added, and wrap to 64 bits; texts are joined
abbrev pub PlusMeans : Type 0
PlusMeans =
    Holds (λ (v, w). joined operator.Plus v w)
    (((int 2, int 3), int 5)
    ∷ ((greatest, int 1), least)
    ∷ ((least, item.Int (negsuc 0)), greatest)
    ∷ ((item.Text (codes "a"), item.Text (codes "b")), item.Text (codes "ab"))
    ∷ [])

-- differences, products and negations wrap likewise
abbrev pub MinusMeans : Type 0
MinusMeans =
    Holds (λ (v, w). joined operator.Minus v w)
    (((int 2, int 3), item.Int (negsuc 0)) ∷ ((least, int 1), greatest) ∷ [])

-- a product
abbrev pub TimesMeans : Type 0
TimesMeans =
    Holds (λ (v, w). joined operator.Times v w)
    (((int 2, int 3), int 6) ∷ ((greatest, int 2), item.Int (negsuc 1)) ∷ ((item.Int (negsuc 1), int 3), item.Int (negsuc 5)) ∷ [])

-- a `-` in front
abbrev pub NegativeMeans : Type 0
NegativeMeans = Holds negated ((int 0, int 0) ∷ (int 5, item.Int (negsuc 4)) ∷ (item.Int (negsuc 4), int 5) ∷ (least, least) ∷ [])

-- `or` stops at what holds, and `and` at what doesn't; else the other side is the answer
abbrev pub OrAndMean : Type 0
OrAndMean =
    Holds (λ (o, v). decides o v)
    (((operator.Or, item.Bool true), true)
    ∷ ((operator.Or, item.Bool false), false)
    ∷ ((operator.And, item.Bool true), false)
    ∷ ((operator.And, item.Bool false), true)
    ∷ [])

-- what they give where they don't stop
abbrev pub OtherSideIsGiven : Type 0
OtherSideIsGiven =
    Holds (λ (o, v, w). joined o v w)
    (((operator.Or, item.Bool false, item.Bool true), item.Bool true)
    ∷ ((operator.Or, item.Bool false, item.Bool false), item.Bool false)
    ∷ ((operator.And, item.Bool true, item.Bool true), item.Bool true)
    ∷ ((operator.And, item.Bool true, item.Bool false), item.Bool false)
    ∷ [])

-- each comparison of -1 with 1, of 1 with 1, and of 1 with -1
abbrev pub ComparisonsMean : Type 0
ComparisonsMean =
    Holds (λ r. compares r (item.Int (negsuc 0)) (int 1) ∷ compares r (int 1) (int 1) ∷ compares r (int 1) (item.Int (negsuc 0)) ∷ [])
    ((relation.Equal, false ∷ true ∷ false ∷ [])
    ∷ (relation.Unequal, true ∷ false ∷ true ∷ [])
    ∷ (relation.Less, true ∷ false ∷ false ∷ [])
    ∷ (relation.AtMost, true ∷ true ∷ false ∷ [])
    ∷ (relation.Greater, false ∷ false ∷ true ∷ [])
    ∷ (relation.AtLeast, false ∷ true ∷ true ∷ [])
    ∷ [])

-- texts and bools are equal or not
abbrev pub EqualityMeans : Type 0
EqualityMeans =
    Holds (λ (v, w). compares relation.Equal v w)
    (((item.Text (codes "a"), item.Text (codes "a")), true)
    ∷ ((item.Text (codes "a"), item.Text (codes "ab")), false)
    ∷ ((item.Bool true, item.Bool true), true)
    ∷ ((item.Bool true, item.Bool false), false)
    ∷ [])

-- `len` counts the bytes of a text and the elements of texts
abbrev pub LenMeans : Type 0
LenMeans =
    Holds length_of
    ((item.Text [], 0) ∷ (item.Text (195 ∷ 169 ∷ []), 2) ∷ (item.Texts [], 0) ∷ (item.Texts (codes "abc" ∷ [] ∷ []), 2) ∷ [])
