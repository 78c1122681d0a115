-- Canonical texts of expressions, put together node by node as the definition goes through a tree.
use Rattle.std.specs.Prelude.{◌≡◌, Bool, true, false, [], ◌∷◌, ◌++◌, Some, codes, refl}
use Rattle.plain_data.specs.Texts.{Bytes}
use Rattle.rdt_types.specs.declared.address.Kind.TheVariants as kind
use Rattle.txn_trees.specs.declared.expression.ExprNode.TheOpen as node
use Rattle.txn_trees.specs.declared.word.Operator.{Operator}
use Rattle.txn_trees.specs.declared.word.Operator.TheVariants as operator
use Rattle.txn_trees.specs.declared.word.Relation.{Relation}
use Rattle.txn_trees.specs.declared.word.Relation.TheVariants as relation
use Rattle.txn_trees.specs.declared.word.ReadWord.TheVariants as read
use Rattle.txn_grammar.specs.Spellings.{spelling, same_symbol}
use Rattle.txn_print.specs.Pieces.{text}
use Rattle.txn_print.specs.Canonical.{Shown, show_node, whole, block, otherwise}

-- ---- nodes

abbrev quoted : Bytes → Shown
quoted bytes = show_node (node.Text bytes)

abbrev truth : Bool → Shown
truth b = show_node (node.Bool b)

abbrev name : Bytes → Shown
name n = show_node (node.Name n)

abbrev not : Shown → Shown
not e = show_node (node.Not e)

abbrev negative : Shown → Shown
negative e = show_node (node.Negative e)

-- two operands
abbrev joined : Shown → Operator → Shown → Shown
joined a o b = show_node (node.Chain a ((o, b) ∷ []))

-- three operands of one rank
abbrev three : Shown → Operator → Shown → Operator → Shown → Shown
three a o b p c = show_node (node.Chain a ((o, b) ∷ (p, c) ∷ []))

abbrev compared : Shown → Relation → Shown → Shown
compared a r b = show_node (node.Compare a r b)

abbrev x : Shown
x = name (codes "x")

abbrev y : Shown
y = name (codes "y")

abbrev z : Shown
z = name (codes "z")

abbrev w : Shown
w = name (codes "w")

-- ---- sums, products, negatives

sum-under-times : text (whole (joined (joined x operator.Plus y) operator.Times z)) ≡ codes "(x + y) * z"
unfolding spelling same_symbol
sum-under-times = refl

product-in-a-sum : text (whole (joined x operator.Plus (joined y operator.Times z))) ≡ codes "x + y * z"
unfolding spelling same_symbol
product-in-a-sum = refl

sum-in-a-sum : text (whole (joined x operator.Minus (joined y operator.Minus z))) ≡ codes "x - (y - z)"
unfolding spelling same_symbol
sum-in-a-sum = refl

sum-first-in-a-sum : text (whole (joined (joined x operator.Minus y) operator.Minus z)) ≡ codes "(x - y) - z"
unfolding spelling same_symbol
sum-first-in-a-sum = refl

sum-of-three : text (whole (three x operator.Minus y operator.Plus z)) ≡ codes "x - y + z"
unfolding spelling same_symbol
sum-of-three = refl

product-in-a-product : text (whole (joined x operator.Times (joined y operator.Times z))) ≡ codes "x * (y * z)"
unfolding spelling same_symbol
product-in-a-product = refl

negatives : text (whole (joined x operator.Plus (negative (negative x)))) ≡ codes "x + --x"
unfolding spelling same_symbol
negatives = refl

negative-of-a-sum : text (whole (negative (joined x operator.Plus y))) ≡ codes "-(x + y)"
unfolding spelling same_symbol
negative-of-a-sum = refl

negative-of-a-product : text (whole (negative (joined x operator.Times y))) ≡ codes "-(x * y)"
unfolding spelling same_symbol
negative-of-a-product = refl

negative-in-a-product : text (whole (joined (negative x) operator.Times (negative y))) ≡ codes "-x * -y"
unfolding spelling same_symbol
negative-in-a-product = refl

-- ---- comparisons, `not`, `and`, `or`

comparison-in-a-comparison : text (whole (compared (compared x relation.Equal y) relation.Equal (truth true))) ≡ codes "(x == y) == true"
unfolding spelling same_symbol
comparison-in-a-comparison = refl

sums-in-a-comparison : text (whole (compared (joined x operator.Plus y) relation.AtMost (joined z operator.Times w))) ≡ codes "x + y <= z * w"
unfolding spelling same_symbol
sums-in-a-comparison = refl

not-in-a-comparison : text (whole (compared (not (truth true)) relation.Unequal (truth false))) ≡ codes "(not true) != false"
unfolding spelling same_symbol
not-in-a-comparison = refl

not-of-a-comparison : text (whole (not (compared x relation.Less y))) ≡ codes "not x < y"
unfolding spelling same_symbol
not-of-a-comparison = refl

nots : text (whole (not (not (truth true)))) ≡ codes "not not true"
unfolding spelling same_symbol
nots = refl

not-of-a-conjunction : text (whole (not (joined (truth true) operator.And (truth false)))) ≡ codes "not (true and false)"
unfolding spelling same_symbol
not-of-a-conjunction = refl

not-in-a-conjunction : text (whole (joined (not (truth true)) operator.And (compared x relation.Greater y))) ≡ codes "not true and x > y"
unfolding spelling same_symbol
not-in-a-conjunction = refl

disjunction-in-a-conjunction : text (whole (joined (joined x operator.Or y) operator.And z)) ≡ codes "(x or y) and z"
unfolding spelling same_symbol
disjunction-in-a-conjunction = refl

conjunction-in-a-disjunction : text (whole (joined x operator.Or (joined y operator.And z))) ≡ codes "x or y and z"
unfolding spelling same_symbol
conjunction-in-a-disjunction = refl

sum-of-a-comparison : text (whole (joined (compared x relation.AtLeast y) operator.Plus (joined x operator.Or y))) ≡ codes "(x >= y) + (x or y)"
unfolding spelling same_symbol
sum-of-a-comparison = refl

-- ---- what is closed in itself

call-of-a-sum : text (whole (show_node (node.Len (joined (quoted (codes "a")) operator.Plus (show_node (node.Str x)))))) ≡ codes "len(\"a\" + str(x))"
unfolding spelling same_symbol
call-of-a-sum = refl

elements : text (whole (show_node (node.Texts (quoted [] ∷ joined (quoted (codes "a")) operator.Plus y ∷ [])))) ≡ codes "[\"\", \"a\" + y]"
unfolding spelling same_symbol
elements = refl

no-elements : text (whole (show_node (node.Texts []))) ≡ codes "[]"
unfolding spelling same_symbol
no-elements = refl

field : text (whole (joined (show_node (node.Read kind.Hash (quoted (codes "h")) read.Get (quoted (codes "f") ∷ []))) operator.Plus
    (show_node (node.Read kind.Text (quoted (codes "t")) read.Get []))))
    ≡ codes "hash(\"h\").get(\"f\") + text(\"t\").get()"
unfolding spelling same_symbol
field = refl

-- what is held against a peak may be a sum, which needs no parentheses of its own
height : text (whole (show_node (node.Read kind.Peak (quoted (codes "bid")) read.Over (joined x operator.Plus y ∷ []))))
    ≡ codes "peak(\"bid\").over(x + y)"
unfolding spelling same_symbol
height = refl

-- a quote and a newline
escapes : text (whole (quoted (34 ∷ 10 ∷ []))) ≡ codes "\"\\\"\\n\""
unfolding spelling same_symbol
escapes = refl

-- an empty block, and an `else` with nothing in it
empty-blocks : text (block [] ++ otherwise (Some [])) ≡ codes "{ } else { }"
unfolding spelling same_symbol
empty-blocks = refl
