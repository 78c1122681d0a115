-- What is shown of each node of a tree.
use Rattle.std.proofs.Common.{◌≡◌, ℕ, ℤ, Bool, List, [], ◌∷◌, ◌++◌, map, Option, Some, None, refl, ap, sym, ◌∙◌}
use Rattle.std.specs.Option.{option_map}
use Rattle.rdt_types.specs.declared.address.Kind.{Kind}
use Rattle.txn_trees.specs.declared.expression.Expr.{Expr, Expr-F, fold_out-Expr, out-Expr}
use Rattle.txn_trees.specs.declared.expression.ExprNode.{ExprNode, fold-ExprNode, fold_out-ExprNode}
use Rattle.txn_trees.specs.declared.expression.ExprNode.TheVariants as made
use Rattle.txn_trees.specs.declared.expression.Operand.{Operand, Operand-F, fold-Operand, fold_out-Operand}
use Rattle.txn_trees.specs.declared.word.Operator.{Operator}
use Rattle.txn_trees.specs.declared.word.Relation.{Relation}
use Rattle.txn_trees.specs.declared.word.ReadWord.{ReadWord}
use Rattle.txn_trees.specs.declared.statement.Stmt.{Stmt, Stmt-F, fold_out-Stmt, out-Stmt}
use Rattle.txn_trees.specs.declared.statement.StmtNode.{StmtNode, fold-StmtNode, fold_out-StmtNode}
use Rattle.txn_trees.specs.declared.statement.StmtNode.TheVariants as stmt
use Rattle.txn_trees.specs.declared.word.WriteWord.{WriteWord}
use Rattle.txn_grammar.specs.Trees.{grouped}
use Rattle.txn_grammar.specs.declared.symbol.Symbol.TheVariants as s
use Rattle.txn_grammar.specs.declared.token.Token.TheVariants as t
use Rattle.plain_data.specs.Texts.{Bytes}
use Rattle.txn_print.specs.declared.place.Place.TheVariants as place
use Rattle.txn_print.specs.Pieces.{Piece, spaced, opening, closing, word}
use Rattle.txn_print.specs.Canonical.{Shown, shown_as, show_node, shown, shown_operand, shown_chain, at, whole}
use Rattle.txn_print.specs.Canonical.{expression, given, separated, operation, truth, comparison, read_name, write_name}
use Rattle.txn_print.specs.Canonical.{chain, shown_stmt, show_stmt, block, otherwise, ended}

-- what is shown of an expression is what is shown of its node
abbrev expr_step : Expr-F Shown Shown (Operator × Shown) → Shown
expr_step e = e.node

-- what is shown of an operand: its operator, and what is shown of its value
abbrev operand_step : Operand-F Shown Shown (Operator × Shown) → Operator × Shown
operand_step o = (o.operator, o.value)

-- what is shown of a node, by those steps
abbrev node_shown : ExprNode → Shown
node_shown = fold-ExprNode Shown Shown (Operator × Shown) show_node expr_step operand_step

-- what is shown of an operand, by those steps
abbrev operand_shown : Operand → Operator × Shown
operand_shown = fold-Operand Shown Shown (Operator × Shown) show_node expr_step operand_step

-- an expression shows its node
pub opened : (e : Expr) → shown e ≡ node_shown (out-Expr e).node
unfolding shown
opened e = fold_out-Expr Shown Shown (Operator × Shown) show_node expr_step operand_step e

-- that is its operator and what is shown of its value: the equation of the fold
one_operand : (o : Operand) → operand_shown o ≡ shown_operand o
unfolding shown
one_operand o = fold_out-Operand Shown Shown (Operator × Shown) show_node expr_step operand_step o

-- the operands of a chain
operands : (os : List Operand) → map operand_shown os ≡ map shown_operand os
operands [] = refl
operands (o ∷ os) = ap (λ x. x ∷ map operand_shown os) (one_operand o) ∙ ap (λ xs. shown_operand o ∷ xs) (operands os)

-- elements and arguments
wholes : (es : List Expr) → map whole (map shown es) ≡ map expression es
wholes [] = refl
wholes (e ∷ es) = ap (λ xs. expression e ∷ xs) (wholes es)

-- the node of an expression, without its column
abbrev node_of : Expr → ExprNode
node_of e = (out-Expr e).node

module _ (e : Expr) where
  -- what is shown of an expression goes by its node, not by its column
  by_node : (n : ExprNode) → node_of e ≡ n → shown e ≡ node_shown n
  by_node n h = opened e ∙ ap node_shown h

  -- a number is one token, and unary: the fold's equation at that node, as it is in all that follow
  pub at_number : (n : ℤ) → node_of e ≡ made.Number n → shown e ≡ shown_as place.Unary (spaced (t.Number n) ∷ [])
  unfolding shown
  at_number n h =
      by_node (made.Number n) h ∙ (fold_out-ExprNode Shown Shown (Operator × Shown) show_node expr_step operand_step (made.Number n) ∙ rw made.outs-Number refl)

  -- a text is one token, and unary
  pub at_text : (bytes : Bytes) → node_of e ≡ made.Text bytes → shown e ≡ shown_as place.Unary (spaced (t.Text bytes) ∷ [])
  unfolding shown
  at_text bytes h =
      by_node (made.Text bytes) h
      ∙ (fold_out-ExprNode Shown Shown (Operator × Shown) show_node expr_step operand_step (made.Text bytes) ∙ rw made.outs-Text refl)

  -- a truth value is its word, and unary
  pub at_bool : (b : Bool) → node_of e ≡ made.Bool b → shown e ≡ shown_as place.Unary (word (truth b) ∷ [])
  unfolding shown
  at_bool b h =
      by_node (made.Bool b) h ∙ (fold_out-ExprNode Shown Shown (Operator × Shown) show_node expr_step operand_step (made.Bool b) ∙ rw made.outs-Bool refl)

  -- a name is one token, and unary
  pub at_name : (name : Bytes) → node_of e ≡ made.Name name → shown e ≡ shown_as place.Unary (spaced (t.Name name) ∷ [])
  unfolding shown
  at_name name h =
      by_node (made.Name name) h ∙ (fold_out-ExprNode Shown Shown (Operator × Shown) show_node expr_step operand_step (made.Name name) ∙ rw made.outs-Name refl)

  -- `len` is its word and the argument in parentheses, whatever rule the argument is of
  pub at_len : (a : Expr) → node_of e ≡ made.Len a → shown e ≡ shown_as place.Unary (word s.Len ∷ given (expression a))
  unfolding shown
  at_len a h =
      by_node (made.Len a) h ∙ (fold_out-ExprNode Shown Shown (Operator × Shown) show_node expr_step operand_step (made.Len a) ∙ rw made.outs-Len refl)

  -- `str` is its word and the argument in parentheses
  pub at_str : (a : Expr) → node_of e ≡ made.Str a → shown e ≡ shown_as place.Unary (word s.Str ∷ given (expression a))
  unfolding shown
  at_str a h =
      by_node (made.Str a) h ∙ (fold_out-ExprNode Shown Shown (Operator × Shown) show_node expr_step operand_step (made.Str a) ∙ rw made.outs-Str refl)

  -- a negative is its mark and the value, in parentheses unless that is unary too
  pub at_negative : (a : Expr) → node_of e ≡ made.Negative a → shown e ≡ shown_as place.Unary (opening s.Minus ∷ at place.Unary (shown a))
  unfolding shown
  at_negative a h =
      by_node (made.Negative a) h
      ∙ (fold_out-ExprNode Shown Shown (Operator × Shown) show_node expr_step operand_step (made.Negative a) ∙ rw made.outs-Negative refl)

  -- a `not` is its word and the value, in parentheses where that is looser than a `not`
  pub at_not : (a : Expr) → node_of e ≡ made.Not a → shown e ≡ shown_as place.Negation (word s.Not ∷ at place.Negation (shown a))
  unfolding shown
  at_not a h =
      by_node (made.Not a) h ∙ (fold_out-ExprNode Shown Shown (Operator × Shown) show_node expr_step operand_step (made.Not a) ∙ rw made.outs-Not refl)

  -- a comparison is its relation between two sides, each in parentheses where it is looser than a sum
  pub at_compare : (l : Expr) (r : Relation) (a : Expr) → node_of e ≡ made.Compare l r a
      → shown e ≡ shown_as place.Comparison (at place.Sum (shown l) ++ word (comparison r) ∷ at place.Sum (shown a))
  unfolding shown
  at_compare l r a h =
      by_node (made.Compare l r a) h
      ∙ (fold_out-ExprNode Shown Shown (Operator × Shown) show_node expr_step operand_step (made.Compare l r a) ∙ rw made.outs-Compare refl)

  -- a list of texts is its elements in brackets, each shown as a whole
  pub at_texts : (es : List Expr) → node_of e ≡ made.Texts es
      → shown e ≡ shown_as place.Unary (opening s.OpenBracket ∷ (separated (map expression es) ++ closing s.CloseBracket ∷ []))
  unfolding shown
  at_texts es h =
      by_node (made.Texts es) h
      ∙ (fold_out-ExprNode Shown Shown (Operator × Shown) show_node expr_step operand_step (made.Texts es)
      ∙ rw made.outs-Texts (ap (λ xs. shown_as place.Unary (opening s.OpenBracket ∷ (separated xs ++ closing s.CloseBracket ∷ []))) (wholes es)))

  -- a chain is its first operand and each further one behind its operator, as one operand is shown
  pub at_chain : (f : Expr) (os : List Operand) → node_of e ≡ made.Chain f os → shown e ≡ shown_chain f os
  unfolding shown
  at_chain f os h =
      by_node (made.Chain f os) h
      ∙ (fold_out-ExprNode Shown Shown (Operator × Shown) show_node expr_step operand_step (made.Chain f os)
      ∙ rw made.outs-Chain (ap (λ xs. chain (shown f) xs) (operands os)))

  -- a read is its kind, key, word and arguments, key and arguments shown as wholes
  pub at_read : (kind : Kind) (key : Expr) (asked : ReadWord) (es : List Expr) → node_of e ≡ made.Read kind key asked es
      → shown e ≡ shown_as place.Unary (operation kind (expression key) (read_name asked) (map expression es))
  unfolding shown
  at_read kind key asked es h =
      by_node (made.Read kind key asked es) h
      ∙ (fold_out-ExprNode Shown Shown (Operator × Shown) show_node expr_step operand_step (made.Read kind key asked es)
      ∙ rw made.outs-Read (ap (λ xs. shown_as place.Unary (operation kind (expression key) (read_name asked) xs)) (wholes es)))

-- an expression in parentheses shows what it shows without them
pub shown_group : (c : ℕ) (e : Expr) → shown (grouped c e) ≡ shown e
shown_group c e = opened (grouped c e) ∙ sym (opened e)

-- ---- statements

-- what is shown of a statement is what is shown of its node
abbrev stmt_step : Stmt-F (List Piece) (List Piece) → List Piece
stmt_step x = x.node

-- what is shown of a statement's node
abbrev node_shown_stmt : StmtNode → List Piece
node_shown_stmt = fold-StmtNode (List Piece) (List Piece) show_stmt stmt_step

module _ (x : Stmt) where
  -- what is shown of a statement goes by its node, not by its column
  stmt_by_node : (n : StmtNode) → (out-Stmt x).node ≡ n → shown_stmt x ≡ node_shown_stmt n
  unfolding shown_stmt
  stmt_by_node n h = fold_out-Stmt (List Piece) (List Piece) show_stmt stmt_step x ∙ ap node_shown_stmt h

  -- a `let` is its word, its name, the sign and the value up to the semicolon: the fold's equation there
  pub at_let : (name : Bytes) (e : Expr) → (out-Stmt x).node ≡ stmt.Let name e
      → shown_stmt x ≡ word s.Let ∷ spaced (t.Name name) ∷ word s.Assign ∷ ended (expression e)
  unfolding shown_stmt
  at_let name e h =
      stmt_by_node (stmt.Let name e) h ∙ (fold_out-StmtNode (List Piece) (List Piece) show_stmt stmt_step (stmt.Let name e) ∙ rw stmt.outs-Let refl)

  -- an `emit` is its word and the value up to the semicolon
  pub at_emit : (e : Expr) → (out-Stmt x).node ≡ stmt.Emit e → shown_stmt x ≡ word s.Emit ∷ ended (expression e)
  unfolding shown_stmt
  at_emit e h =
      stmt_by_node (stmt.Emit e) h ∙ (fold_out-StmtNode (List Piece) (List Piece) show_stmt stmt_step (stmt.Emit e) ∙ rw stmt.outs-Emit refl)

  -- a `fail` is its word and the value up to the semicolon
  pub at_fail : (e : Expr) → (out-Stmt x).node ≡ stmt.Fail e → shown_stmt x ≡ word s.Fail ∷ ended (expression e)
  unfolding shown_stmt
  at_fail e h =
      stmt_by_node (stmt.Fail e) h ∙ (fold_out-StmtNode (List Piece) (List Piece) show_stmt stmt_step (stmt.Fail e) ∙ rw stmt.outs-Fail refl)

  -- an `if` is its word, the condition, its block, and the block of the `else` where there is one
  pub at_if : (e : Expr) (holds : List Stmt) (other : Option (List Stmt)) → (out-Stmt x).node ≡ stmt.If e holds other
      → shown_stmt x ≡ word s.If ∷ (expression e ++ (block (map shown_stmt holds) ++ otherwise (option_map (map shown_stmt) other)))
  unfolding shown_stmt
  at_if e holds None h =
      stmt_by_node (stmt.If e holds None) h ∙ (fold_out-StmtNode (List Piece) (List Piece) show_stmt stmt_step (stmt.If e holds None) ∙ rw stmt.outs-If refl)
  at_if e holds (Some ss) h =
      stmt_by_node (stmt.If e holds (Some ss)) h
      ∙ (fold_out-StmtNode (List Piece) (List Piece) show_stmt stmt_step (stmt.If e holds (Some ss)) ∙ rw stmt.outs-If refl)

  -- a `for` is its word, the name, `in`, the texts and its block
  pub at_for : (name : Bytes) (e : Expr) (each : List Stmt) → (out-Stmt x).node ≡ stmt.For name e each
      → shown_stmt x ≡ word s.For ∷ spaced (t.Name name) ∷ word s.In ∷ (expression e ++ block (map shown_stmt each))
  unfolding shown_stmt
  at_for name e each h =
      stmt_by_node (stmt.For name e each) h ∙ (fold_out-StmtNode (List Piece) (List Piece) show_stmt stmt_step (stmt.For name e each) ∙ rw stmt.outs-For refl)

  -- a write is its operation up to the semicolon
  pub at_write : (kind : Kind) (key : Expr) (done : WriteWord) (es : List Expr) → (out-Stmt x).node ≡ stmt.Write kind key done es
      → shown_stmt x ≡ ended (operation kind (expression key) (write_name done) (map expression es))
  unfolding shown_stmt
  at_write kind key done es h =
      stmt_by_node (stmt.Write kind key done es) h
      ∙ (fold_out-StmtNode (List Piece) (List Piece) show_stmt stmt_step (stmt.Write kind key done es) ∙ rw stmt.outs-Write refl)
