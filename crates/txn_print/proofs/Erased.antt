-- Each node of a tree, columns aside.
use Rattle.std.proofs.Common.{◌≡◌, ℕ, ℤ, Bool, List, [], ◌∷◌, map, Option, Some, None, refl, ap, sym, ◌∙◌}
use Rattle.std.specs.Option.{option_map}
use Rattle.plain_data.specs.Texts.{Bytes}
use Rattle.rdt_types.specs.declared.address.Kind.{Kind}
use Rattle.txn_trees.specs.declared.expression.Expr.{Expr, Expr-F, fold_out-Expr, out-Expr, roll-Expr}
use Rattle.txn_trees.specs.declared.expression.ExprNode.{ExprNode, ExprNode-F, roll-ExprNode, fold-ExprNode, fold_out-ExprNode}
use Rattle.txn_trees.specs.declared.expression.ExprNode.TheVariants as made
use Rattle.txn_trees.specs.declared.expression.Operand.{Operand, Operand-F, roll-Operand, fold-Operand, fold_out-Operand, out-Operand}
use Rattle.txn_trees.specs.declared.statement.Stmt.{Stmt, Stmt-F, fold_out-Stmt, roll-Stmt}
use Rattle.txn_trees.specs.declared.statement.StmtNode.{StmtNode, fold-StmtNode, fold_out-StmtNode}
use Rattle.txn_trees.specs.declared.statement.StmtNode.TheVariants as stmt
use Rattle.txn_trees.specs.declared.word.Relation.{Relation}
use Rattle.txn_trees.specs.declared.word.ReadWord.{ReadWord}
use Rattle.txn_trees.specs.declared.word.WriteWord.{WriteWord}
use Rattle.txn_grammar.specs.Trees.{expr, operand, grouped, stmt_at}
use Rattle.txn_print.specs.Columns.{bare, bare_stmt, bare_node}

-- a node stays as it is, but for what stands in it
abbrev node_step : ExprNode-F ExprNode Expr Operand → ExprNode
node_step n = roll-ExprNode n

-- an expression's column becomes 0
abbrev expr_step : Expr-F ExprNode Expr Operand → Expr
expr_step e = roll-Expr (record { column = 0; node = e.node })

-- an operand has no column of its own
abbrev operand_step : Operand-F ExprNode Expr Operand → Operand
operand_step o = roll-Operand (record { operator = o.operator; value = o.value })

-- a node with every column in it 0
abbrev node_bare : ExprNode → ExprNode
node_bare = fold-ExprNode ExprNode Expr Operand node_step expr_step operand_step

-- an operand with every column in it 0, by those steps
abbrev operand_bare : Operand → Operand
operand_bare = fold-Operand ExprNode Expr Operand node_step expr_step operand_step

-- an operand with every column 0
abbrev pub bare_operand : Operand → Operand
bare_operand o = operand (out-Operand o).operator (bare (out-Operand o).value)

-- an expression's column and then its node's
pub bared : (c : ℕ) (n : ExprNode) → bare (expr c n) ≡ expr 0 (node_bare n)
unfolding bare
bared c n = fold_out-Expr ExprNode Expr Operand node_step expr_step operand_step (expr c n)

-- that is the operand with its value bared: the equation of the fold
one_operand : (o : Operand) → operand_bare o ≡ bare_operand o
unfolding bare
one_operand o = fold_out-Operand ExprNode Expr Operand node_step expr_step operand_step o

-- each operand of a chain, one after another
operands : (os : List Operand) → map operand_bare os ≡ map bare_operand os
operands [] = refl
operands (o ∷ os) = ap (λ x. x ∷ map operand_bare os) (one_operand o) ∙ ap (λ xs. bare_operand o ∷ xs) (operands os)

-- parentheses leave no trace
pub bared_group : (c : ℕ) (e : Expr) → bare (grouped c e) ≡ bare e
unfolding bare
bared_group c e = bared c (out-Expr e).node ∙ sym (fold_out-Expr ExprNode Expr Operand node_step expr_step operand_step e)

module _ (c : ℕ) where
  -- nothing stands in a number: its own column becomes 0, by the fold's equation at that node
  pub bared_number : (n : ℤ) → bare (expr c (made.Number n)) ≡ expr 0 (made.Number n)
  unfolding bare
  bared_number n =
      bared c (made.Number n)
      ∙ ap (expr 0) (fold_out-ExprNode ExprNode Expr Operand node_step expr_step operand_step (made.Number n) ∙ rw made.outs-Number (made.rolls-Number n))

  -- nothing stands in a text: its own column becomes 0
  pub bared_text : (bytes : Bytes) → bare (expr c (made.Text bytes)) ≡ expr 0 (made.Text bytes)
  unfolding bare
  bared_text bytes =
      bared c (made.Text bytes)
      ∙ ap (expr 0) (fold_out-ExprNode ExprNode Expr Operand node_step expr_step operand_step (made.Text bytes) ∙ rw made.outs-Text (made.rolls-Text bytes))

  -- nothing stands in a truth value: its own column becomes 0
  pub bared_bool : (b : Bool) → bare (expr c (made.Bool b)) ≡ expr 0 (made.Bool b)
  unfolding bare
  bared_bool b =
      bared c (made.Bool b)
      ∙ ap (expr 0) (fold_out-ExprNode ExprNode Expr Operand node_step expr_step operand_step (made.Bool b) ∙ rw made.outs-Bool (made.rolls-Bool b))

  -- nothing stands in a name: its own column becomes 0
  pub bared_name : (name : Bytes) → bare (expr c (made.Name name)) ≡ expr 0 (made.Name name)
  unfolding bare
  bared_name name =
      bared c (made.Name name)
      ∙ ap (expr 0) (fold_out-ExprNode ExprNode Expr Operand node_step expr_step operand_step (made.Name name) ∙ rw made.outs-Name (made.rolls-Name name))

  -- a list's own column becomes 0, and so do those of its elements
  pub bared_texts : (es : List Expr) → bare (expr c (made.Texts es)) ≡ expr 0 (made.Texts (map bare es))
  unfolding bare
  bared_texts es =
      bared c (made.Texts es)
      ∙ ap (expr 0) (fold_out-ExprNode ExprNode Expr Operand node_step expr_step operand_step (made.Texts es)
      ∙ rw made.outs-Texts (made.rolls-Texts (map bare es)))

  -- `len` and its argument lose their columns
  pub bared_len : (a : Expr) → bare (expr c (made.Len a)) ≡ expr 0 (made.Len (bare a))
  unfolding bare
  bared_len a =
      bared c (made.Len a)
      ∙ ap (expr 0) (fold_out-ExprNode ExprNode Expr Operand node_step expr_step operand_step (made.Len a) ∙ rw made.outs-Len (made.rolls-Len (bare a)))

  -- `str` and its argument lose their columns
  pub bared_str : (a : Expr) → bare (expr c (made.Str a)) ≡ expr 0 (made.Str (bare a))
  unfolding bare
  bared_str a =
      bared c (made.Str a)
      ∙ ap (expr 0) (fold_out-ExprNode ExprNode Expr Operand node_step expr_step operand_step (made.Str a) ∙ rw made.outs-Str (made.rolls-Str (bare a)))

  -- a negative and its value lose their columns
  pub bared_negative : (a : Expr) → bare (expr c (made.Negative a)) ≡ expr 0 (made.Negative (bare a))
  unfolding bare
  bared_negative a =
      bared c (made.Negative a)
      ∙ ap (expr 0) (fold_out-ExprNode ExprNode Expr Operand node_step expr_step operand_step (made.Negative a)
      ∙ rw made.outs-Negative (made.rolls-Negative (bare a)))

  -- a `not` and its value lose their columns
  pub bared_not : (a : Expr) → bare (expr c (made.Not a)) ≡ expr 0 (made.Not (bare a))
  unfolding bare
  bared_not a =
      bared c (made.Not a)
      ∙ ap (expr 0) (fold_out-ExprNode ExprNode Expr Operand node_step expr_step operand_step (made.Not a) ∙ rw made.outs-Not (made.rolls-Not (bare a)))

  -- a comparison and its two sides lose their columns
  pub bared_compare : (l : Expr) (r : Relation) (a : Expr) → bare (expr c (made.Compare l r a)) ≡ expr 0 (made.Compare (bare l) r (bare a))
  unfolding bare
  bared_compare l r a =
      bared c (made.Compare l r a)
      ∙ ap (expr 0) (fold_out-ExprNode ExprNode Expr Operand node_step expr_step operand_step (made.Compare l r a)
      ∙ rw made.outs-Compare (made.rolls-Compare (bare l) r (bare a)))

  -- a chain, its first operand and each further one lose their columns
  pub bared_chain : (f : Expr) (os : List Operand) → bare (expr c (made.Chain f os)) ≡ expr 0 (made.Chain (bare f) (map bare_operand os))
  unfolding bare
  bared_chain f os =
      bared c (made.Chain f os)
      ∙ ap (expr 0) (fold_out-ExprNode ExprNode Expr Operand node_step expr_step operand_step (made.Chain f os)
      ∙ rw made.outs-Chain (made.rolls-Chain (bare f) (map operand_bare os) ∙ ap (λ xs. made.Chain (bare f) xs) (operands os)))

  -- a read, its key and its arguments lose their columns
  pub bared_read : (kind : Kind) (key : Expr) (asked : ReadWord) (es : List Expr)
      → bare (expr c (made.Read kind key asked es)) ≡ expr 0 (made.Read kind (bare key) asked (map bare es))
  unfolding bare
  bared_read kind key asked es =
      bared c (made.Read kind key asked es)
      ∙ ap (expr 0) (fold_out-ExprNode ExprNode Expr Operand node_step expr_step operand_step (made.Read kind key asked es)
      ∙ rw made.outs-Read (made.rolls-Read kind (bare key) asked (map bare es)))

-- ---- statements

-- a statement's column becomes 0
abbrev stmt_step : Stmt-F StmtNode Stmt → Stmt
stmt_step x = roll-Stmt (record { column = 0; node = x.node })

-- a statement's node with every column in it 0
abbrev node_bare_stmt : StmtNode → StmtNode
node_bare_stmt = fold-StmtNode StmtNode Stmt bare_node stmt_step

-- a statement's own column becomes 0, and then those of its node: the equation of the fold
bared_at : (c : ℕ) (n : StmtNode) → bare_stmt (stmt_at c n) ≡ stmt_at 0 (node_bare_stmt n)
unfolding bare_stmt
bared_at c n = fold_out-Stmt StmtNode Stmt bare_node stmt_step (stmt_at c n)

module _ (c : ℕ) where
  -- a `let` and its value lose their columns: the fold's equation at that node
  pub bared_let : (name : Bytes) (e : Expr) → bare_stmt (stmt_at c (stmt.Let name e)) ≡ stmt_at 0 (stmt.Let name (bare e))
  unfolding bare_stmt
  bared_let name e =
      bared_at c (stmt.Let name e) ∙ ap (stmt_at 0) (fold_out-StmtNode StmtNode Stmt bare_node stmt_step (stmt.Let name e) ∙ rw stmt.outs-Let refl)

  -- an `emit` and its value lose their columns
  pub bared_emit : (e : Expr) → bare_stmt (stmt_at c (stmt.Emit e)) ≡ stmt_at 0 (stmt.Emit (bare e))
  unfolding bare_stmt
  bared_emit e =
      bared_at c (stmt.Emit e) ∙ ap (stmt_at 0) (fold_out-StmtNode StmtNode Stmt bare_node stmt_step (stmt.Emit e) ∙ rw stmt.outs-Emit refl)

  -- a `fail` and its value lose their columns
  pub bared_fail : (e : Expr) → bare_stmt (stmt_at c (stmt.Fail e)) ≡ stmt_at 0 (stmt.Fail (bare e))
  unfolding bare_stmt
  bared_fail e =
      bared_at c (stmt.Fail e) ∙ ap (stmt_at 0) (fold_out-StmtNode StmtNode Stmt bare_node stmt_step (stmt.Fail e) ∙ rw stmt.outs-Fail refl)

  -- an `if`, its condition and the statements of both blocks lose their columns; by whether there is an `else`
  pub bared_if : (e : Expr) (holds : List Stmt) (other : Option (List Stmt))
      → bare_stmt (stmt_at c (stmt.If e holds other)) ≡ stmt_at 0 (stmt.If (bare e) (map bare_stmt holds) (option_map (map bare_stmt) other))
  unfolding bare_stmt
  bared_if e holds None =
      bared_at c (stmt.If e holds None) ∙ ap (stmt_at 0) (fold_out-StmtNode StmtNode Stmt bare_node stmt_step (stmt.If e holds None) ∙ rw stmt.outs-If refl)
  bared_if e holds (Some ss) =
      bared_at c (stmt.If e holds (Some ss))
      ∙ ap (stmt_at 0) (fold_out-StmtNode StmtNode Stmt bare_node stmt_step (stmt.If e holds (Some ss)) ∙ rw stmt.outs-If refl)

  -- a `for`, its texts and the statements of its block lose their columns
  pub bared_for : (name : Bytes) (e : Expr) (each : List Stmt)
      → bare_stmt (stmt_at c (stmt.For name e each)) ≡ stmt_at 0 (stmt.For name (bare e) (map bare_stmt each))
  unfolding bare_stmt
  bared_for name e each =
      bared_at c (stmt.For name e each) ∙ ap (stmt_at 0) (fold_out-StmtNode StmtNode Stmt bare_node stmt_step (stmt.For name e each) ∙ rw stmt.outs-For refl)

  -- a write, its key and its arguments lose their columns
  pub bared_write : (kind : Kind) (key : Expr) (done : WriteWord) (es : List Expr)
      → bare_stmt (stmt_at c (stmt.Write kind key done es)) ≡ stmt_at 0 (stmt.Write kind (bare key) done (map bare es))
  unfolding bare_stmt
  bared_write kind key done es =
      bared_at c (stmt.Write kind key done es)
      ∙ ap (stmt_at 0) (fold_out-StmtNode StmtNode Stmt bare_node stmt_step (stmt.Write kind key done es) ∙ rw stmt.outs-Write refl)
