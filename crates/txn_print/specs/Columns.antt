-- Trees, columns aside.
use Rattle.std.specs.Prelude.{◌≡◌, map}
use Rattle.txn_trees.specs.declared.expression.Expr.{Expr, fold-Expr, roll-Expr}
use Rattle.txn_trees.specs.declared.expression.ExprNode.{ExprNode, roll-ExprNode}
use Rattle.txn_trees.specs.declared.expression.Operand.{Operand, roll-Operand}
use Rattle.txn_trees.specs.declared.statement.Stmt.{Stmt, fold-Stmt, roll-Stmt}
use Rattle.txn_trees.specs.declared.statement.StmtNode.{StmtNode, StmtNode-F}
use Rattle.txn_trees.specs.declared.statement.StmtNode.TheOpen as open_stmt
use Rattle.txn_trees.specs.declared.statement.StmtNode.TheVariants as stmt
use Rattle.txn_trees.specs.declared.statement.Body.{Body}

-- the expression with every column 0
unfoldable pub bare : Expr → Expr
bare =
    fold-Expr ExprNode Expr Operand (λ n. roll-ExprNode n) (λ e. roll-Expr (record { column = 0; node = e.node }))
    (λ o. roll-Operand (record { operator = o.operator; value = o.value }))

-- the statement with every column 0, those of its expressions too
abbrev pub bare_node : StmtNode-F StmtNode Stmt → StmtNode
bare_node (open_stmt.Let name value) = stmt.Let name (bare value)
bare_node (open_stmt.Emit value) = stmt.Emit (bare value)
bare_node (open_stmt.Fail value) = stmt.Fail (bare value)
bare_node (open_stmt.If condition holds other) = stmt.If (bare condition) holds other
bare_node (open_stmt.For name texts each) = stmt.For name (bare texts) each
bare_node (open_stmt.Write kind key word arguments) = stmt.Write kind (bare key) word (map bare arguments)

-- a statement with all columns 0
unfoldable pub bare_stmt : Stmt → Stmt
bare_stmt = fold-Stmt StmtNode Stmt bare_node (λ x. roll-Stmt (record { column = 0; node = x.node }))

-- a body with all columns 0
abbrev pub without_columns : Body → Body
without_columns body = record { stmts = map bare_stmt body.stmts }

-- Two bodies are the same but for where their tokens stood.
abbrev pub SameButColumns : Body → Body → Type 0
SameButColumns a b = without_columns a ≡ without_columns b
