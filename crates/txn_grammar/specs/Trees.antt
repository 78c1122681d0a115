-- How trees are put together. The column of an expression and of a statement is that of its first token.
use Rattle.std.specs.Prelude.{ℕ, ℤ, Bool, List, [], ◌∷◌, Option, Some, None}
use Rattle.rdt_types.specs.declared.address.Kind.{Kind}
use Rattle.txn_trees.specs.declared.expression.Expr.{Expr, roll-Expr, out-Expr}
use Rattle.txn_trees.specs.declared.expression.ExprNode.{ExprNode}
use Rattle.txn_trees.specs.declared.expression.ExprNode.TheVariants as node
use Rattle.txn_trees.specs.declared.expression.Operand.{Operand, roll-Operand}
use Rattle.txn_trees.specs.declared.statement.Stmt.{Stmt, roll-Stmt}
use Rattle.txn_trees.specs.declared.statement.StmtNode.{StmtNode}
use Rattle.txn_trees.specs.declared.statement.StmtNode.TheVariants as stmt
use Rattle.txn_trees.specs.declared.statement.Body.{Body}
use Rattle.txn_trees.specs.declared.word.Operator.{Operator}
use Rattle.txn_trees.specs.declared.word.Relation.{Relation}
use Rattle.txn_trees.specs.declared.word.WriteWord.{WriteWord}
use Rattle.txn_trees.specs.declared.word.ReadWord.{ReadWord}
use Rattle.txn_grammar.specs.declared.target.Target.{Target}
use Rattle.txn_grammar.specs.Characters.{Text}

-- ---- expressions

-- an expression at a column
abbrev pub expr : ℕ → ExprNode → Expr
expr column node = roll-Expr (record { column = column; node = node })

-- the column of one
abbrev pub column_of : Expr → ℕ
column_of e = (out-Expr e).column

-- a number, as an expression
abbrev pub number_expr : ℕ × ℤ → Expr
number_expr number = expr number.0 (node.Number number.1)

-- a text
abbrev pub text_expr : ℕ × Text → Expr
text_expr text = expr text.0 (node.Text text.1)

-- a truth value
abbrev pub truth_expr : ℕ × Bool → Expr
truth_expr truth = expr truth.0 (node.Bool truth.1)

-- a name
abbrev pub name_expr : ℕ × Text → Expr
name_expr name = expr name.0 (node.Name name.1)

-- parentheses leave no node: what stands in them stands at the opening one
abbrev pub grouped : ℕ → Expr → Expr
grouped column inner = expr column (out-Expr inner).node

-- an operator with the operand behind it
abbrev pub operand : Operator → Expr → Operand
operand operator value = roll-Operand (record { operator = operator; value = value })

-- an operand alone makes no node
abbrev pub chained : Expr × List Operand → Expr
chained (first, []) = first
chained (first, next ∷ rest) = expr (column_of first) (node.Chain first (next ∷ rest))

-- nor does a side alone
abbrev pub compared : Expr → Option (Relation × Expr) → Expr
compared left None = left
compared left (Some (relation, right)) = expr (column_of left) (node.Compare left relation right)

-- what is read or written: a kind and a key, at the kind's column
abbrev pub target_of : ℕ × Kind → Expr → Target
target_of kind key = record { column = kind.0; kind = kind.1; key = key }

-- a read, at the column of its target
abbrev pub read_expr : Target → ReadWord → List Expr → Expr
read_expr target word arguments = expr target.column (node.Read target.kind target.key word arguments)

-- ---- statements

-- a statement at a column
abbrev pub stmt_at : ℕ → StmtNode → Stmt
stmt_at column node = roll-Stmt (record { column = column; node = node })

-- a write, at the column of its target
abbrev pub write_stmt : Target → WriteWord → List Expr → Stmt
write_stmt target word arguments = stmt_at target.column (stmt.Write target.kind target.key word arguments)

-- a body of one statement and more
abbrev pub body_of : Stmt × List Stmt → Body
body_of (first, rest) = record { stmts = first ∷ rest }
