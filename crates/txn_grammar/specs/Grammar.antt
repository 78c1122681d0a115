-- The grammar of bodies, as rules over tokens: nothing here chooses, looks ahead or counts.
--
--   body  = stmt { stmt }
--   block = "{" { stmt } "}"
--   stmt  = "let" name "=" expr ";" | "emit" expr ";" | "fail" expr ";"
--         | "if" expr block [ "else" block ]
--         | "for" name "in" expr block
--         | kind "(" expr ")" "." write "(" arguments ")" ";"
--   expr  = conj { "or" conj }
--   conj  = neg { "and" neg }
--   neg   = "not" neg | cmp
--   cmp   = sum [ relation sum ]
--   sum   = prod { ( "+" | "-" ) prod }
--   prod  = unary { "*" unary }
--   unary = "-" unary | prim
--   prim  = number | text | "true" | "false" | name | "(" expr ")"
--         | "len" "(" expr ")" | "str" "(" expr ")" | "[" [ expr { "," expr } ] "]"
--         | kind "(" expr ")" "." read "(" arguments ")"
--
-- `(`, `[`, `{`, `not` and the `-` of a unary each open a level for what stands inside them. Rules with a number have so
-- many levels left: what opens one has a case of its own for one left, and what stands inside has one fewer.
use Rattle.std.specs.Prelude.{◌≡◌, ℕ, zero, suc, List, [], ◌∷◌, refl}
use Rattle.txn_trees.specs.declared.expression.Expr.{Expr}
use Rattle.txn_trees.specs.declared.expression.ExprNode.TheVariants as node
use Rattle.txn_trees.specs.declared.expression.Operand.{Operand}
use Rattle.txn_trees.specs.declared.statement.Stmt.{Stmt}
use Rattle.txn_trees.specs.declared.statement.StmtNode.TheVariants as stmt
use Rattle.txn_trees.specs.declared.statement.Body.{Body}
use Rattle.txn_trees.specs.declared.word.Relation.{Relation}
use Rattle.predictive_parsing.specs.Rules.{Rule, One, Pure, Or, Many, ListOf, Optional, Whole, ◌>>=◌}
use Rattle.txn_grammar.specs.declared.limit.TheConstants.{DEEPEST}
use Rattle.txn_grammar.specs.declared.rank.Rank.{Rank}
use Rattle.txn_grammar.specs.declared.rank.Rank.TheVariants as rank
use Rattle.txn_grammar.specs.declared.symbol.Symbol.{Symbol}
use Rattle.txn_grammar.specs.declared.symbol.Symbol.TheVariants as s
use Rattle.txn_grammar.specs.declared.target.Target.{Target}
use Rattle.txn_grammar.specs.declared.token.Spot.{Spot}
use Rattle.txn_grammar.specs.Tokens.{at, symbol_at, of_symbol, number, text, name, truth_of, operator_of, relation_of, kind_of, write_of, read_of}
use Rattle.txn_grammar.specs.Trees.{expr, number_expr, text_expr, truth_expr, name_expr, grouped, operand, chained}
use Rattle.txn_grammar.specs.Trees.{compared, target_of, read_expr, stmt_at, write_stmt, body_of}

-- a reserved word or a mark, by its column
abbrev pub Word : Symbol → Rule Spot ℕ
Word symbol = One (symbol_at symbol)

-- ---- what opens no level

-- number
abbrev pub NumberLeaf : Rule Spot Expr
NumberLeaf = do
  value ← One (at number)
  Pure (number_expr value)

-- text
abbrev pub TextLeaf : Rule Spot Expr
TextLeaf = do
  value ← One (at text)
  Pure (text_expr value)

-- "true" | "false"
abbrev pub TruthLeaf : Rule Spot Expr
TruthLeaf = do
  value ← One (at (of_symbol truth_of))
  Pure (truth_expr value)

-- name
abbrev pub NameLeaf : Rule Spot Expr
NameLeaf = do
  found ← One (at name)
  Pure (name_expr found)

-- number | text | "true" | "false" | name
abbrev pub LeafRule : Rule Spot Expr
LeafRule = Or NumberLeaf (Or TextLeaf (Or TruthLeaf NameLeaf))

-- ---- operands and operators

-- operator operand
abbrev pub Further : Rank → Rule Spot Expr → Rule Spot Operand
Further rank Operand = do
  operator ← One (at (of_symbol (operator_of rank)))
  value ← Operand
  Pure (operand operator.1 value)

-- operand { operator operand }, which is one node where there is an operator
abbrev pub Chain : Rank → Rule Spot Expr → Rule Spot Expr
Chain rank Operand = do
  operands ← ListOf Operand (Further rank Operand)
  Pure (chained operands)

-- relation side
abbrev pub OtherSide : Rule Spot Expr → Rule Spot (Relation × Expr)
OtherSide Side = do
  relation ← One (at (of_symbol relation_of))
  right ← Side
  Pure (relation.1, right)

-- side [ relation side ]
abbrev pub Comparison : Rule Spot Expr → Rule Spot Expr
Comparison Side = do
  left ← Side
  more ← Optional (OtherSide Side)
  Pure (compared left more)

-- cmp = sum [ relation sum ], sum = prod { ( "+" | "-" ) prod }, prod = unary { "*" unary }
abbrev pub ComparisonOf : Rule Spot Expr → Rule Spot Expr
ComparisonOf Unary = Comparison (Chain rank.Sum (Chain rank.Product Unary))

-- expr = conj { "or" conj }, conj = neg { "and" neg }
abbrev pub ExpressionOf : Rule Spot Expr → Rule Spot Expr
ExpressionOf Negation = Chain rank.Disjunction (Chain rank.Conjunction Negation)

-- ---- what opens a level

-- "-" unary
abbrev pub Negative : Rule Spot Expr → Rule Spot Expr
Negative Unary = do
  column ← Word s.Minus
  value ← Unary
  Pure (expr column (node.Negative value))

-- "not" neg
abbrev pub Not : Rule Spot Expr → Rule Spot Expr
Not Negation = do
  column ← Word s.Not
  value ← Negation
  Pure (expr column (node.Not value))

-- "(" inner ")"
abbrev pub InParens : {A : Type 0} → Rule Spot A → Rule Spot (ℕ × A)
InParens Inner = do
  column ← Word s.OpenParen
  inner ← Inner
  _ ← Word s.CloseParen
  Pure (column, inner)

-- "(" expr ")"
abbrev pub Group : Rule Spot Expr → Rule Spot Expr
Group Expression = do
  inner ← InParens Expression
  Pure (grouped inner.0 inner.1)

-- "len" "(" expr ")"
abbrev pub Len : Rule Spot Expr → Rule Spot Expr
Len Expression = do
  column ← Word s.Len
  argument ← InParens Expression
  Pure (expr column (node.Len argument.1))

-- "str" "(" expr ")"
abbrev pub Str : Rule Spot Expr → Rule Spot Expr
Str Expression = do
  column ← Word s.Str
  argument ← InParens Expression
  Pure (expr column (node.Str argument.1))

-- "," expr
abbrev pub AfterComma : Rule Spot Expr → Rule Spot Expr
AfterComma Expression = do
  _ ← Word s.Comma
  Expression

-- expr { "," expr }
abbrev pub Elements : Rule Spot Expr → Rule Spot (List Expr)
Elements Expression = do
  elements ← ListOf Expression (AfterComma Expression)
  Pure (elements.0 ∷ elements.1)

-- "[" [ expr { "," expr } ] "]"
abbrev pub Texts : Rule Spot Expr → Rule Spot Expr
Texts Expression = do
  column ← Word s.OpenBracket
  elements ← Or (Elements Expression) (Pure [])
  _ ← Word s.CloseBracket
  Pure (expr column (node.Texts elements))

-- so many, one after another
abbrev pub Times : {A : Type 0} → Rule Spot A → ℕ → Rule Spot (List A)
Times P zero = Pure []
Times P (suc count) = do
  first ← P
  rest ← Times P count
  Pure (first ∷ rest)

-- exactly so many expressions, with a comma between each two
abbrev pub Arguments : Rule Spot Expr → ℕ → Rule Spot (List Expr)
Arguments Expression zero = Pure []
Arguments Expression (suc others) = do
  first ← Expression
  rest ← Times (AfterComma Expression) others
  Pure (first ∷ rest)

-- kind "(" expr ")" "."
abbrev pub Targeted : Rule Spot Expr → Rule Spot Target
Targeted Expression = do
  kind ← One (at (of_symbol kind_of))
  key ← InParens Expression
  _ ← Word s.Dot
  Pure (target_of kind key.1)

-- target read "(" arguments ")"
abbrev pub Read : Rule Spot Expr → Rule Spot Expr
Read Expression = do
  target ← Targeted Expression
  operation ← One (at (read_of target.kind))
  arguments ← InParens (Arguments Expression operation.1.arguments)
  Pure (read_expr target operation.1.word arguments.1)

-- what opens a level, by what stands inside
abbrev pub Opened : Rule Spot Expr → Rule Spot Expr → Rule Spot Expr
Opened Unary Expression =
    Or (Negative Unary)
    (Or (Group Expression)
    (Or (Len Expression)
    (Or (Str Expression)
    (Or (Texts Expression)
    (Read Expression)))))

-- unary = "-" unary | prim, where a level is left
abbrev pub UnaryOf : Rule Spot Expr → Rule Spot Expr → Rule Spot Expr
UnaryOf Unary Expression = Or (Opened Unary Expression) LeafRule

-- ---- expressions, by the levels that are left

unfoldable mutual
  -- unary = "-" unary | prim
  pub Unary : ℕ → Rule Spot Expr
  Unary zero = LeafRule
  Unary (suc n) = UnaryOf (Unary n) (ExpressionOf (Negation n))

  -- neg = "not" neg | cmp
  pub Negation : ℕ → Rule Spot Expr
  Negation zero = ComparisonOf LeafRule
  Negation (suc n) = Or (Not (Negation n)) (ComparisonOf (UnaryOf (Unary n) (ExpressionOf (Negation n))))

-- an expression where so many levels may be opened
abbrev pub Expression : ℕ → Rule Spot Expr
Expression n = ExpressionOf (Negation n)

-- as the grammar has it: what stands behind `not` and behind `-` has a level less, and so has what stands in parentheses
negation_in_levels : (n : ℕ) → Negation (suc n) ≡ Or (Not (Negation n)) (ComparisonOf (Unary (suc n)))
unfolding Unary
negation_in_levels n = refl

unary_in_levels : (n : ℕ) → Unary (suc n) ≡ Or (Opened (Unary n) (Expression n)) LeafRule
unfolding Unary
unary_in_levels n = refl

-- ---- statements

-- "let" name "=" expr ";"
abbrev pub LetStmt : Rule Spot Expr → Rule Spot Stmt
LetStmt Expression = do
  column ← Word s.Let
  found ← One (at name)
  _ ← Word s.Assign
  value ← Expression
  _ ← Word s.Semicolon
  Pure (stmt_at column (stmt.Let found.1 value))

-- "emit" expr ";"
abbrev pub EmitStmt : Rule Spot Expr → Rule Spot Stmt
EmitStmt Expression = do
  column ← Word s.Emit
  value ← Expression
  _ ← Word s.Semicolon
  Pure (stmt_at column (stmt.Emit value))

-- "fail" expr ";"
abbrev pub FailStmt : Rule Spot Expr → Rule Spot Stmt
FailStmt Expression = do
  column ← Word s.Fail
  value ← Expression
  _ ← Word s.Semicolon
  Pure (stmt_at column (stmt.Fail value))

-- statements that open no level themselves
abbrev pub SimpleStmt : Rule Spot Expr → Rule Spot Stmt
SimpleStmt Expression = Or (LetStmt Expression) (Or (EmitStmt Expression) (FailStmt Expression))

-- "{" { stmt } "}"
abbrev pub Block : Rule Spot Stmt → Rule Spot (List Stmt)
Block Inside = do
  _ ← Word s.OpenBrace
  stmts ← Many Inside
  _ ← Word s.CloseBrace
  Pure stmts

-- "else" block
abbrev pub Otherwise : Rule Spot Stmt → Rule Spot (List Stmt)
Otherwise Inside = do
  _ ← Word s.Else
  Block Inside

-- "if" expr block [ "else" block ]
abbrev pub IfStmt : Rule Spot Expr → Rule Spot Stmt → Rule Spot Stmt
IfStmt Expression Inside = do
  column ← Word s.If
  condition ← Expression
  holds ← Block Inside
  otherwise ← Optional (Otherwise Inside)
  Pure (stmt_at column (stmt.If condition holds otherwise))

-- "for" name "in" expr block
abbrev pub ForStmt : Rule Spot Expr → Rule Spot Stmt → Rule Spot Stmt
ForStmt Expression Inside = do
  column ← Word s.For
  found ← One (at name)
  _ ← Word s.In
  texts ← Expression
  each ← Block Inside
  Pure (stmt_at column (stmt.For found.1 texts each))

-- target write "(" arguments ")" ";"
abbrev pub WriteStmt : Rule Spot Expr → Rule Spot Stmt
WriteStmt Argument = do
  target ← Targeted Argument
  operation ← One (at (write_of target.kind))
  arguments ← InParens (Arguments Argument operation.1.arguments)
  _ ← Word s.Semicolon
  Pure (write_stmt target operation.1.word arguments.1)

-- statements that open a level, by the expressions beside it, and the expressions and statements in it
abbrev pub NestingStmt : Rule Spot Expr → Rule Spot Expr → Rule Spot Stmt → Rule Spot Stmt
NestingStmt Expression Argument Inside = Or (IfStmt Expression Inside) (Or (ForStmt Expression Inside) (WriteStmt Argument))

-- statements, by the levels that are left
unfoldable pub Statement : ℕ → Rule Spot Stmt
Statement zero = SimpleStmt (Expression zero)
Statement (suc n) = Or (SimpleStmt (Expression (suc n))) (NestingStmt (Expression (suc n)) (Expression n) (Statement n))

-- body = stmt { stmt }
abbrev pub BodyRule : Rule Spot Body
BodyRule = do
  stmts ← ListOf (Statement DEEPEST) (Statement DEEPEST)
  Pure (body_of stmts)

-- the tokens of a body, all of them
abbrev pub IsBody : List Spot → Body → Type 0
IsBody = Whole BodyRule
