-- The rules of the language: what each expression and each statement does. They stand over any memory that is read and
-- written, so that one set of rules holds of the body's own operations, replayed on plain values, and of what the code keeps.
--
-- Statements run in order and operands from left to right. A tick is charged for each statement that begins, for each turn
-- of a `for`, for each expression that begins (a chain charges one an operator, and nothing for itself), and for each
-- element of what `all` and `fields` answer.
use Rattle.std.specs.Prelude.{◌+◌, pos, not, if◌then◌else◌, List, [], ◌∷◌, ◌++◌, map, sum, length, take, Option, Some, None}
use Rattle.std.specs.Fmt.{signed_decimal}
use Rattle.plain_data.specs.Texts.{Bytes}
use Rattle.rdt_types.specs.declared.address.Kind.{Kind}
use Rattle.rdt_types.specs.declared.address.Address.{Address}
use Rattle.rdt_types.specs.declared.operation.WriteOp.{WriteOp}
use Rattle.rdt_types.specs.declared.outcome.Item.{Item}
use Rattle.rdt_types.specs.declared.outcome.Item.TheVariants as item
use Rattle.txn_trees.specs.declared.word.Operator.{Operator}
use Rattle.txn_trees.specs.declared.word.ReadWord.{ReadWord}
use Rattle.txn_trees.specs.declared.word.WriteWord.{WriteWord}
use Rattle.txn_trees.specs.declared.expression.Expr.{Expr}
use Rattle.txn_trees.specs.declared.expression.ExprNode.{ExprNode}
use Rattle.txn_trees.specs.declared.expression.ExprNode.TheOpen.{ExprNode-F, Expr-F, Operand-F}
use Rattle.txn_trees.specs.declared.expression.ExprNode.TheFolds.{fold-ExprNode, fold-Operand}
use Rattle.txn_trees.specs.declared.expression.Expr.{fold-Expr}
use Rattle.txn_trees.specs.declared.expression.Operand.{Operand}
use Rattle.txn_trees.specs.declared.statement.Body.{Body}
use Rattle.txn_trees.specs.declared.statement.Stmt.{fold-Stmt}
use Rattle.txn_trees.specs.declared.statement.Stmt.{Stmt}
use Rattle.txn_trees.specs.declared.statement.StmtNode.{StmtNode}
use Rattle.txn_trees.specs.declared.statement.StmtNode.TheOpen.{StmtNode-F, Stmt-F}
use Rattle.txn_trees.specs.declared.statement.StmtNode.TheFolds.{fold-StmtNode}
use Rattle.txn_lang.specs.declared.progress.Stop.TheVariants as stop
use Rattle.txn_lang.specs.Steps.{Memory, Stepping, ◌>>=◌, pure, stop_by, charge, carry, emit, read_at, write_at}
use Rattle.txn_lang.specs.Items.{Names, named, int_in, bool_in, text_in, texts_in, size_of, is_big, decides, joined}
use Rattle.txn_lang.specs.Items.{negated, length_of, read_of, write_of, text_size, elements_in, compares}

-- what an expression does where names are bound
abbrev pub Expression : Type 0 → Type 0
Expression M = Names → Stepping M Item

-- what statements do: they leave names
abbrev pub Statement : Type 0 → Type 0
Statement M = Names → Stepping M Names

-- the address of a kind and a key
abbrev pub address_of : Kind → Item → Address
address_of k key = record { kind = k; key = text_in key }

module _ {M : Type 0} where
  -- a text or texts that an expression makes, within the limits
  abbrev pub sized : Item → Stepping M Item
  sized i = λ p. (if is_big i then stop_by stop.Big else pure i) p

  -- expressions in order, behind the items so far
  abbrev pub all_values : List Item → List (Expression M) → Names → Stepping M (List Item)
  all_values is [] names = pure is
  all_values is (e ∷ es) names = do
    i ← e names
    all_values (is ++ i ∷ []) es names

  -- one further operand of a chain, unless the item so far decides
  abbrev pub joined_with : Operator → Item → Expression M → Names → Stepping M Item
  joined_with o i e names = do
    j ← e names
    sized (joined o i j)

  -- one operator more: where the item decides, the operand isn't run
  abbrev pub link : Operator → Item → Expression M → Names → Stepping M Item
  link o i e names = λ p. (if decides o i then pure i else joined_with o i e names) p

  -- operators with their operands, from left to right
  abbrev pub chain : Item → List (Operator × Expression M) → Names → Stepping M Item
  chain i [] names = pure i
  chain i (o ∷ os) names = do
    j ← link o.0 i o.1 names
    chain j os names

  -- an answer: one tick for each element, and then its size
  abbrev pub answer_with : Item → Stepping M Item
  answer_with i = do
    _ ← charge (elements_in i)
    sized i

module _ {M : Type 0} where
  abbrev pub of_expr : Expr-F (Expression M) (Expression M) (Operator × Expression M) → Expression M
  of_expr e = e.node

  -- an operator, and how its operand runs
  abbrev pub of_operand : Operand-F (Expression M) (Expression M) (Operator × Expression M) → Operator × Expression M
  of_operand o = (o.operator, o.value)

  -- an item is emitted: it loads its size and 8 more
  abbrev pub emit_item : Item → Stepping M (Unit {0})
  emit_item i = do
    _ ← carry (8 + size_of i)
    emit i

  -- a block forgets the names that it bound
  abbrev pub all_steps : List (Statement M) → Names → Stepping M Names
  all_steps [] names = pure names
  all_steps (s ∷ ss) names = do
    after ← s names
    all_steps ss after

  -- statements, whose names are forgotten behind them
  abbrev pub block : List (Statement M) → Names → Stepping M Names
  block ss names = do
    after ← all_steps ss names
    pure (take (length names) after)

  -- a block, where there is one
  abbrev pub block_maybe : Option (List (Statement M)) → Names → Stepping M Names
  block_maybe None names = pure names
  block_maybe (Some ss) names = block ss names

  -- a turn of a loop, with its text bound inside
  abbrev pub turn : Bytes → List (Statement M) → Bytes → Names → Stepping M Names
  turn x ss t names = do
    _ ← charge 1
    after ← all_steps ss (names ++ (x, item.Text t) ∷ [])
    pure (take (length names) after)

  -- a block for each text, which has the name meanwhile
  abbrev pub turns : Bytes → List (Statement M) → List Bytes → Names → Stepping M Names
  turns x ss [] names = pure names
  turns x ss (t ∷ ts) names = do
    after ← turn x ss t names
    turns x ss ts after

  -- each statement charges a tick first
  abbrev pub of_stmt : Stmt-F (Statement M) (Statement M) → Statement M
  of_stmt s names = do
    _ ← charge 1
    s.node names

module _ {M : Type 0} (m : Memory M) where
  -- what a read answers, charged and sized
  abbrev pub read_with : Kind → Item → ReadWord → List Item → Stepping M Item
  read_with k key word is = do
    i ← read_at m (read_of k word is) (address_of k key)
    answer_with i

  -- what an expression does, from what the expressions in it do
  abbrev pub of_node : ExprNode-F (Expression M) (Expression M) (Operator × Expression M) → Expression M
  of_node (ExprNode-F.Number n) names = do
    _ ← charge 1
    pure (item.Int n)
  of_node (ExprNode-F.Text t) names = do
    _ ← charge 1
    sized (item.Text t)
  of_node (ExprNode-F.Bool b) names = do
    _ ← charge 1
    pure (item.Bool b)
  of_node (ExprNode-F.Name x) names = do
    _ ← charge 1
    pure (named names x)
  of_node (ExprNode-F.Texts es) names = do
    _ ← charge 1
    is ← all_values [] es names
    sized (item.Texts (map text_in is))
  of_node (ExprNode-F.Len e) names = do
    _ ← charge 1
    i ← e names
    pure (item.Int (pos (length_of i)))
  of_node (ExprNode-F.Str e) names = do
    _ ← charge 1
    i ← e names
    pure (item.Text (signed_decimal (int_in i)))
  of_node (ExprNode-F.Negative e) names = do
    _ ← charge 1
    i ← e names
    pure (negated i)
  of_node (ExprNode-F.Not e) names = do
    _ ← charge 1
    i ← e names
    pure (item.Bool (not (bool_in i)))
  of_node (ExprNode-F.Compare e r f) names = do
    _ ← charge 1
    i ← e names
    j ← f names
    pure (item.Bool (compares r i j))
  of_node (ExprNode-F.Chain e os) names = do
    _ ← charge (length os)
    i ← e names
    chain i os names
  of_node (ExprNode-F.Read k e word es) names = do
    _ ← charge 1
    key ← e names
    is ← all_values [] es names
    read_with k key word is

  -- how an expression runs, without its column
  abbrev pub node_run : ExprNode → Expression M
  node_run = fold-ExprNode (Expression M) (Expression M) (Operator × Expression M) of_node of_expr of_operand

  -- what an expression does
  abbrev pub expr_run : Expr → Expression M
  expr_run = fold-Expr (Expression M) (Expression M) (Operator × Expression M) of_node of_expr of_operand

  -- a further operand of a chain, with its operator
  abbrev pub operand_run : Operand → Operator × Expression M
  operand_run = fold-Operand (Expression M) (Expression M) (Operator × Expression M) of_node of_expr of_operand

  -- an operation, where the kind has it
  abbrev pub write_maybe : Address → Option WriteOp → Stepping M (Unit {0})
  write_maybe a None = pure tt
  write_maybe a (Some o) = write_at m a o

  -- what a word writes
  abbrev pub writes_with : Kind → Item → WriteWord → List Item → Stepping M (Unit {0})
  writes_with k key word is = do
    _ ← carry (8 + length (text_in key) + sum (map text_size is))
    write_maybe (address_of k key) (write_of k word is)

  -- what a statement does, from what the statements in it do
  abbrev pub of_step : StmtNode-F (Statement M) (Statement M) → Statement M
  of_step (StmtNode-F.Let x e) names = do
    i ← expr_run e names
    pure (names ++ (x, i) ∷ [])
  of_step (StmtNode-F.Emit e) names = do
    i ← expr_run e names
    _ ← emit_item i
    pure names
  of_step (StmtNode-F.Fail e) names = do
    i ← expr_run e names
    stop_by (stop.Fail (text_in i))
  of_step (StmtNode-F.If e then_do else_do) names = do
    i ← expr_run e names
    λ p. (if bool_in i then block then_do names else block_maybe else_do names) p
  of_step (StmtNode-F.For x e ss) names = do
    i ← expr_run e names
    turns x ss (texts_in i) names
  of_step (StmtNode-F.Write k e word es) names = do
    key ← expr_run e names
    is ← all_values [] (map expr_run es) names
    _ ← writes_with k key word is
    pure names

  -- how a statement runs, without its column
  abbrev pub step_run : StmtNode → Statement M
  step_run = fold-StmtNode (Statement M) (Statement M) of_step of_stmt

  -- what a statement does
  abbrev pub stmt_run : Stmt → Statement M
  stmt_run = fold-Stmt (Statement M) (Statement M) of_step of_stmt

  -- what a body does
  abbrev pub body_run : Body → Stepping M Names
  body_run b = all_steps (map stmt_run b.stmts) []
