-- The reader of bodies, rule by rule as the grammar has them: functions that look one token ahead. The law
-- `parsed_is_body` ties it to the grammar.
use Rattle.std.specs.Prelude.{ℕ, zero, suc, Bool, not, ◌||◌, List, [], ◌∷◌, Option}
use Rattle.txn_trees.specs.declared.expression.Expr.{Expr}
use Rattle.txn_trees.specs.declared.expression.ExprNode.TheVariants as node
use Rattle.txn_trees.specs.declared.expression.Operand.{Operand}
use Rattle.txn_trees.specs.declared.statement.Stmt.{Stmt}
use Rattle.txn_trees.specs.declared.statement.StmtNode.TheVariants as stmt
use Rattle.txn_trees.specs.declared.statement.Body.{Body}
use Rattle.txn_trees.specs.declared.word.Relation.{Relation}
use Rattle.predictive_parsing.specs.Reading.{Reader, ◌>>=◌, pure, begins, one, either, turns, many, list, optional}
use Rattle.predictive_parsing.specs.Fits.{any}
use Rattle.txn_grammar.specs.declared.limit.TheConstants.{DEEPEST}
use Rattle.txn_grammar.specs.declared.form.Leaf.{Leaf}
use Rattle.txn_grammar.specs.declared.form.Leaf.TheVariants as leaf
use Rattle.txn_grammar.specs.declared.form.Opener.{Opener}
use Rattle.txn_grammar.specs.declared.form.Opener.TheVariants as opener
use Rattle.txn_grammar.specs.declared.form.Simple.{Simple}
use Rattle.txn_grammar.specs.declared.form.Simple.TheVariants as simple
use Rattle.txn_grammar.specs.declared.form.Nesting.{Nesting}
use Rattle.txn_grammar.specs.declared.form.Nesting.TheVariants as nesting
use Rattle.txn_grammar.specs.declared.rank.Rank.{Rank}
use Rattle.txn_grammar.specs.declared.rank.Rank.TheVariants as rank
use Rattle.txn_grammar.specs.declared.symbol.Symbol.{Symbol}
use Rattle.txn_grammar.specs.declared.symbol.Symbol.TheVariants as s
use Rattle.txn_grammar.specs.declared.target.Target.{Target}
use Rattle.txn_grammar.specs.declared.token.Spot.{Spot}
use Rattle.txn_grammar.specs.Tokens.{at, symbol_at, of_symbol, number, text, name, truth_of, operator_of, relation_of, kind_of, write_of, read_of}
use Rattle.txn_grammar.specs.Trees.{expr, number_expr, text_expr, truth_expr, name_expr, grouped, operand, chained}
use Rattle.txn_grammar.specs.Trees.{compared, target_of, read_expr, stmt_at, write_stmt, body_of}
use Rattle.txn_grammar.specs.code.Forms.{chosen, leaf_at, opener_at, simple_at, nesting_at}

unfoldable pub word : Symbol → Reader Spot ℕ
word symbol = one (symbol_at symbol)

-- whether this symbol is ahead
abbrev pub sees : Symbol → Option Spot → Bool
sees symbol = begins (symbol_at symbol)

-- ---- what opens no level

unfoldable pub number_leaf : Reader Spot Expr
number_leaf = do
  value ← one (at number)
  pure (number_expr value)

unfoldable pub text_leaf : Reader Spot Expr
text_leaf = do
  value ← one (at text)
  pure (text_expr value)

unfoldable pub truth_leaf : Reader Spot Expr
truth_leaf = do
  value ← one (at (of_symbol truth_of))
  pure (truth_expr value)

unfoldable pub name_leaf : Reader Spot Expr
name_leaf = do
  found ← one (at name)
  pure (name_expr found)

abbrev pub leaf_read : Leaf → Reader Spot Expr
leaf_read leaf.Number = number_leaf
leaf_read leaf.Text = text_leaf
leaf_read leaf.Truth = truth_leaf
leaf_read leaf.Name = name_leaf

unfoldable pub a_leaf : Reader Spot Expr
a_leaf = chosen leaf_at leaf.Name leaf_read

-- ---- operands and operators

abbrev pub begins_operator : Rank → Option Spot → Bool
begins_operator rank = begins (at (of_symbol (operator_of rank)))

unfoldable pub further : Rank → Reader Spot Expr → Reader Spot Operand
further rank operand_read = do
  operator ← one (at (of_symbol (operator_of rank)))
  value ← operand_read
  pure (operand operator.1 value)

unfoldable pub chain : Rank → Reader Spot Expr → Reader Spot Expr
chain rank operand_read = do
  operands ← list operand_read (begins_operator rank) (further rank operand_read)
  pure (chained operands)

abbrev pub begins_relation : Option Spot → Bool
begins_relation = begins (at (of_symbol relation_of))

unfoldable pub other_side : Reader Spot Expr → Reader Spot (Relation × Expr)
other_side side = do
  relation ← one (at (of_symbol relation_of))
  right ← side
  pure (relation.1, right)

unfoldable pub comparison : Reader Spot Expr → Reader Spot Expr
comparison side = do
  left ← side
  more ← optional begins_relation (other_side side)
  pure (compared left more)

unfoldable pub comparison_of : Reader Spot Expr → Reader Spot Expr
comparison_of unary = comparison (chain rank.Sum (chain rank.Product unary))

unfoldable pub expression_of : Reader Spot Expr → Reader Spot Expr
expression_of negation = chain rank.Disjunction (chain rank.Conjunction negation)

-- ---- what opens a level

unfoldable pub negative : Reader Spot Expr → Reader Spot Expr
negative unary = do
  column ← word s.Minus
  value ← unary
  pure (expr column (node.Negative value))

unfoldable pub not_read : Reader Spot Expr → Reader Spot Expr
not_read negation = do
  column ← word s.Not
  value ← negation
  pure (expr column (node.Not value))

unfoldable pub in_parens : {A : Type 0} → Reader Spot A → Reader Spot (ℕ × A)
in_parens inner_read = do
  column ← word s.OpenParen
  inner ← inner_read
  _ ← word s.CloseParen
  pure (column, inner)

unfoldable pub group : Reader Spot Expr → Reader Spot Expr
group expression = do
  inner ← in_parens expression
  pure (grouped inner.0 inner.1)

unfoldable pub len : Reader Spot Expr → Reader Spot Expr
len expression = do
  column ← word s.Len
  argument ← in_parens expression
  pure (expr column (node.Len argument.1))

unfoldable pub str : Reader Spot Expr → Reader Spot Expr
str expression = do
  column ← word s.Str
  argument ← in_parens expression
  pure (expr column (node.Str argument.1))

unfoldable pub after_comma : Reader Spot Expr → Reader Spot Expr
after_comma expression = do
  _ ← word s.Comma
  expression

unfoldable pub elements : Reader Spot Expr → Reader Spot (List Expr)
elements expression = do
  found ← list expression (sees s.Comma) (after_comma expression)
  pure (found.0 ∷ found.1)

-- none where the closing bracket is ahead
unfoldable pub any_elements : Reader Spot Expr → Reader Spot (List Expr)
any_elements expression = either (λ ahead. not (sees s.CloseBracket ahead)) (elements expression) (pure [])

unfoldable pub texts : Reader Spot Expr → Reader Spot Expr
texts expression = do
  column ← word s.OpenBracket
  found ← any_elements expression
  _ ← word s.CloseBracket
  pure (expr column (node.Texts found))

-- so many, whatever is ahead
abbrev pub times : {A : Type 0} → Reader Spot A → ℕ → Reader Spot (List A)
times p count = turns any p count

unfoldable pub arguments_read : Reader Spot Expr → ℕ → Reader Spot (List Expr)
arguments_read expression zero = pure []
arguments_read expression (suc others) = do
  first ← expression
  rest ← times (after_comma expression) others
  pure (first ∷ rest)

unfoldable pub targeted : Reader Spot Expr → Reader Spot Target
targeted expression = do
  kind ← one (at (of_symbol kind_of))
  key ← in_parens expression
  _ ← word s.Dot
  pure (target_of kind key.1)

unfoldable pub read : Reader Spot Expr → Reader Spot Expr
read expression = do
  target ← targeted expression
  operation ← one (at (read_of target.kind))
  arguments ← in_parens (arguments_read expression operation.1.arguments)
  pure (read_expr target operation.1.word arguments.1)

abbrev pub opened_read : Reader Spot Expr → Reader Spot Expr → Opener → Reader Spot Expr
opened_read unary expression opener.Negative = negative unary
opened_read unary expression opener.Group = group expression
opened_read unary expression opener.Len = len expression
opened_read unary expression opener.Str = str expression
opened_read unary expression opener.Texts = texts expression
opened_read unary expression opener.Read = read expression

unfoldable pub opened : Reader Spot Expr → Reader Spot Expr → Reader Spot Expr
opened unary expression = chosen opener_at opener.Read (opened_read unary expression)

unfoldable pub unary_of : Reader Spot Expr → Reader Spot Expr → Reader Spot Expr
unary_of unary expression = either (begins opener_at) (opened unary expression) a_leaf

-- ---- expressions, by the levels that are left

unfoldable pub negation_of : Reader Spot Expr → Reader Spot Expr → Reader Spot Expr
negation_of negation unary = either (sees s.Not) (not_read negation) (comparison_of unary)

unfoldable mutual
  pub unary : ℕ → Reader Spot Expr
  unary zero = a_leaf
  unary (suc n) = unary_of (unary n) (expression_of (negation n))

  pub negation : ℕ → Reader Spot Expr
  negation zero = comparison_of a_leaf
  negation (suc n) = negation_of (negation n) (unary_of (unary n) (expression_of (negation n)))

unfoldable pub expression : ℕ → Reader Spot Expr
expression n = expression_of (negation n)

-- ---- statements

unfoldable pub let_stmt : Reader Spot Expr → Reader Spot Stmt
let_stmt expression = do
  column ← word s.Let
  found ← one (at name)
  _ ← word s.Assign
  value ← expression
  _ ← word s.Semicolon
  pure (stmt_at column (stmt.Let found.1 value))

unfoldable pub emit_stmt : Reader Spot Expr → Reader Spot Stmt
emit_stmt expression = do
  column ← word s.Emit
  value ← expression
  _ ← word s.Semicolon
  pure (stmt_at column (stmt.Emit value))

unfoldable pub fail_stmt : Reader Spot Expr → Reader Spot Stmt
fail_stmt expression = do
  column ← word s.Fail
  value ← expression
  _ ← word s.Semicolon
  pure (stmt_at column (stmt.Fail value))

abbrev pub simple_read : Reader Spot Expr → Simple → Reader Spot Stmt
simple_read expression simple.Let = let_stmt expression
simple_read expression simple.Emit = emit_stmt expression
simple_read expression simple.Fail = fail_stmt expression

unfoldable pub simple_stmt : Reader Spot Expr → Reader Spot Stmt
simple_stmt expression = chosen simple_at simple.Emit (simple_read expression)

-- whether a statement can begin with what is ahead, with no level left or with one
abbrev pub begins_simple : Option Spot → Bool
begins_simple = begins simple_at

abbrev pub begins_nesting : Option Spot → Bool
begins_nesting = begins nesting_at

unfoldable pub begins_statement : ℕ → Option Spot → Bool
begins_statement zero ahead = begins_simple ahead
begins_statement (suc n) ahead = begins_simple ahead || begins_nesting ahead

unfoldable pub block : (Option Spot → Bool) → Reader Spot Stmt → Reader Spot (List Stmt)
block starts inside = do
  _ ← word s.OpenBrace
  stmts ← many starts inside
  _ ← word s.CloseBrace
  pure stmts

unfoldable pub otherwise_read : (Option Spot → Bool) → Reader Spot Stmt → Reader Spot (List Stmt)
otherwise_read starts inside = do
  _ ← word s.Else
  block starts inside

unfoldable pub if_stmt : Reader Spot Expr → (Option Spot → Bool) → Reader Spot Stmt → Reader Spot Stmt
if_stmt expression starts inside = do
  column ← word s.If
  condition ← expression
  holds ← block starts inside
  otherwise ← optional (sees s.Else) (otherwise_read starts inside)
  pure (stmt_at column (stmt.If condition holds otherwise))

unfoldable pub for_stmt : Reader Spot Expr → (Option Spot → Bool) → Reader Spot Stmt → Reader Spot Stmt
for_stmt expression starts inside = do
  column ← word s.For
  found ← one (at name)
  _ ← word s.In
  texts ← expression
  each ← block starts inside
  pure (stmt_at column (stmt.For found.1 texts each))

unfoldable pub write_stmt_read : Reader Spot Expr → Reader Spot Stmt
write_stmt_read argument = do
  target ← targeted argument
  operation ← one (at (write_of target.kind))
  arguments ← in_parens (arguments_read argument operation.1.arguments)
  _ ← word s.Semicolon
  pure (write_stmt target operation.1.word arguments.1)

abbrev pub nesting_read : Reader Spot Expr → Reader Spot Expr → (Option Spot → Bool) → Reader Spot Stmt → Nesting → Reader Spot Stmt
nesting_read beside argument starts inside nesting.If = if_stmt beside starts inside
nesting_read beside argument starts inside nesting.For = for_stmt beside starts inside
nesting_read beside argument starts inside nesting.Write = write_stmt_read argument

unfoldable pub nesting_stmt : Reader Spot Expr → Reader Spot Expr → (Option Spot → Bool) → Reader Spot Stmt → Reader Spot Stmt
nesting_stmt expression argument starts inside = chosen nesting_at nesting.Write (nesting_read expression argument starts inside)

-- by the levels that are left
unfoldable pub statement : ℕ → Reader Spot Stmt
statement zero = simple_stmt (expression zero)
statement (suc n) =
    either begins_simple (simple_stmt (expression (suc n)))
    (nesting_stmt (expression (suc n)) (expression n) (begins_statement n) (statement n))

unfoldable pub body : Reader Spot Body
body = do
  stmts ← list (statement DEEPEST) (begins_statement DEEPEST) (statement DEEPEST)
  pure (body_of stmts)
