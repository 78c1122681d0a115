-- The rules of the grammar for expressions, as places: `expr`, `conj`, `neg`, `cmp`, `sum`, `prod` and `unary`.
use Rattle.std.specs.Prelude.{◌≡◌, ℕ, Bool, true, false, nat_lt, refl}
use Rattle.txn_trees.specs.declared.word.Operator.{Operator}
use Rattle.txn_trees.specs.declared.word.Operator.TheVariants as operator
use Rattle.txn_print.specs.declared.place.Place.{Place}
use Rattle.txn_print.specs.declared.place.Place.TheVariants as place

-- how many rules are looser: each rule leads to the next tighter one without parentheses
abbrev pub tightness : Place → ℕ
tightness place.Disjunction = 0
tightness place.Conjunction = 1
tightness place.Negation = 2
tightness place.Comparison = 3
tightness place.Sum = 4
tightness place.Product = 5
tightness place.Unary = 6

-- The rule of a node isn't reached from a tighter place without parentheses.
abbrev pub needs_parens : Place → Place → Bool
needs_parens rank at = nat_lt (tightness rank) (tightness at)

-- the rule of a chain with this operator
abbrev pub chain_place : Operator → Place
chain_place operator.Or = place.Disjunction
chain_place operator.And = place.Conjunction
chain_place operator.Plus = place.Sum
chain_place operator.Minus = place.Sum
chain_place operator.Times = place.Product

-- the rule of its operands
abbrev pub operand_place : Operator → Place
operand_place operator.Or = place.Conjunction
operand_place operator.And = place.Negation
operand_place operator.Plus = place.Product
operand_place operator.Minus = place.Product
operand_place operator.Times = place.Unary

-- a sum under `*`, and a product in a sum
sum-under-times : needs_parens place.Sum (operand_place operator.Times) ≡ true
sum-under-times = refl

product-in-a-sum : needs_parens place.Product (operand_place operator.Plus) ≡ false
product-in-a-sum = refl
