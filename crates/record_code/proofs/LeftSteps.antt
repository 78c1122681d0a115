-- One pass over the rules: what a run has written and emitted is short, each write is of its address' kind,
-- and so is the reason of a failure.
use Rattle.std.proofs.Common.{◌≡◌, ℕ, ◌+◌, nat_le, sum, Bool, true, false, List, [], ◌∷◌, ◌++◌, map, length, take}
use Rattle.std.proofs.Common.{Option, Some, None, refl, sym, subst, cond}
use Rattle.std.specs.List.{AllByRecursion}
use Rattle.plain_data.specs.Texts.{Bytes}
use Rattle.rdt_types.specs.declared.address.Address.{Address}
use Rattle.rdt_types.specs.declared.value.Value.{Value}
use Rattle.rdt_types.specs.declared.operation.WriteOp.{WriteOp}
use Rattle.rdt_types.specs.declared.outcome.Item.{Item}
use Rattle.rdt_types.specs.declared.outcome.Item.TheVariants as item
use Rattle.rdt_types.specs.Values.{default_of}
use Rattle.conflict_table.specs.declared.read.ReadOp.{ReadOp}
use Rattle.conflict_table.specs.Reads.{replay, answer, is_decided}
use Rattle.txn_trees.specs.declared.word.Operator.{Operator}
use Rattle.txn_trees.specs.declared.expression.Expr.{Expr, map-Expr, roll-Expr}
use Rattle.txn_trees.specs.declared.expression.ExprNode.{ExprNode, map-ExprNode, roll-ExprNode}
use Rattle.txn_trees.specs.declared.expression.ExprNode.TheOpen.{ExprNode-F, Expr-F, Operand-F}
use Rattle.txn_trees.specs.declared.expression.ExprNode.TheFolds.{fold-roll-Expr, fold-roll-Operand}
use Rattle.txn_trees.specs.declared.expression.ExprNode.TheFolds.{fold-roll-ExprNode, ind-Expr}
use Rattle.txn_trees.specs.declared.expression.Operand.{Operand, map-Operand, roll-Operand}
use Rattle.txn_trees.specs.declared.statement.Stmt.{Stmt, map-Stmt, roll-Stmt}
use Rattle.txn_trees.specs.declared.statement.StmtNode.{StmtNode, map-StmtNode, roll-StmtNode}
use Rattle.txn_trees.specs.declared.statement.StmtNode.TheOpen.{StmtNode-F, Stmt-F}
use Rattle.txn_trees.specs.declared.statement.StmtNode.TheFolds.{fold-roll-StmtNode, fold-roll-Stmt, ind-Stmt}
use Rattle.txn_trees.specs.declared.statement.Body.{Body}
use Rattle.txn_lang.specs.declared.limits.TheConstants.{TICK_LIMIT, LOAD_LIMIT}
use Rattle.txn_lang.specs.declared.progress.Progress.{Progress}
use Rattle.txn_lang.specs.declared.progress.Stop.{Stop}
use Rattle.txn_lang.specs.declared.progress.Stop.TheVariants as stop
use Rattle.txn_lang.specs.Steps.{Memory, Step, stopped, gives, Stepping, and_then, ◌>>=◌, pure, stop_by, charge}
use Rattle.txn_lang.specs.Steps.{carry, emit, answered, read_at, write_at}
use Rattle.txn_lang.specs.Items.{Names, bool_in, text_in, texts_in, size_of, is_big, decides, joined, read_of}
use Rattle.txn_lang.specs.Items.{write_of, text_size, elements_in}
use Rattle.txn_lang.specs.Rules.{Expression, Statement, sized, all_values, link, chain, address_of, of_node, of_expr}
use Rattle.txn_lang.specs.Rules.{of_operand, node_run, expr_run}
use Rattle.txn_lang.specs.Rules.{body_run, all_steps, block, turns, write_maybe, of_step, of_stmt, step_run, stmt_run}
use Rattle.txn_lang.specs.States.{PartialState}
use Rattle.txn_lang.specs.Own.{at_address}
use Rattle.txn_lang.specs.Execution.{Own, own_memory, own_value}
use Rattle.txn_lang.proofs.Each.{each-push, each-take}
use Rattle.txn_lang.proofs.Words.{IsOfKind, write_fits}
use Rattle.txn_lang.proofs.Sizes.{IsShortText, IsSmall, AllSmall, AreSmall, small_text, small_texts, small_sized}
use Rattle.txn_lang.proofs.Sizes.{small_decimal, small_named}
use Rattle.txn_lang.proofs.Walk.{expr_of, operand_of, deep}
use Rattle.record_code.specs.Forms.{IsShort}
use Rattle.record_code.proofs.LeftDeltas.{IsFiledWrite}
use Rattle.record_code.proofs.LeftWords.{IsShortMaybe, write_short}

-- what is given by a step that gives nothing
abbrev unit : Unit {0}
unit = tt

-- ---- what is carried along

-- what a run has written so far is filed, and what it has emitted is small
pub record IsFine (p : Progress Own) : Type 0 where
  pub written : AllByRecursion IsFiledWrite p.memory.operations
  pub emitted : AllSmall p.emitted

-- the reason of a failure is short
abbrev pub IsShortStop : Stop → Type 0
IsShortStop (stop.Fail t) = IsShort t
IsShortStop _ = Unit {0}

-- what a step gives is so, and the run is fine; or its reason to stop is short
abbrev pub Left : {A : Type 0} → (A → Type 0) → Step Own A → Type 0
Left P (gives x p) = P x × IsFine p
Left P (stopped s p) = IsShortStop s

-- it leaves that wherever the run was fine
pub record Leaves {A : Type 0} (P : A → Type 0) (f : Stepping Own A) : Type 0 where
  pub left : (p : Progress Own) → IsFine p → Left P (f p)

-- nothing is asked of what is given by a step that gives nothing
abbrev Nothing : Unit {0} → Type 0
Nothing _ = Unit {0}

-- nor of what a read gives, before it is sized
abbrev AnyItem : Item → Type 0
AnyItem _ = Unit {0}

-- nothing happens, and what is given is so
pure_leaves : {A : Type 0} (P : A → Type 0) (x : A) → P x → Leaves P (pure x)
pure_leaves P x is = record { left = λ p fine. (is, fine) }

-- the first part leaves what the second starts from
then_leaves : {A B : Type 0} {P : A → Type 0} {Q : B → Type 0} {f : Stepping Own A} {h : A → Stepping Own B}
    → Leaves P f → ((x : A) → P x → Leaves Q (h x)) → Leaves Q (f >>= h)
then_leaves {A} {B} {P} {Q} {f} {h} first rest = record { left = λ p fine. by (f p) (first.left p fine) }
  where
    by : (u : Step Own A) → Left P u → Left Q (and_then u h)
    by (gives x q) is = (rest x is.0).left q is.1
    by (stopped s q) is = is

-- a charge writes and emits nothing
charge_leaves : (n : ℕ) → Leaves Nothing (charge n)
charge_leaves n = record { left = λ p fine. by p fine (nat_le (p.ticks + n) TICK_LIMIT) }
  where
    by : (p : Progress Own) → IsFine p → (b : Bool)
        → Left Nothing (cond b (gives unit (record p { ticks = p.ticks + n })) (stopped stop.Spent p))
    by p fine true = (tt, record { written = fine.written; emitted = fine.emitted })
    by p fine false = tt

-- nor does a load
carry_leaves : (n : ℕ) → Leaves Nothing (carry n)
carry_leaves n = record { left = λ p fine. by p fine (nat_le (p.load + n) LOAD_LIMIT) }
  where
    by : (p : Progress Own) → IsFine p → (b : Bool)
        → Left Nothing (cond b (gives unit (record p { load = p.load + n })) (stopped stop.Big p))
    by p fine true = (tt, record { written = fine.written; emitted = fine.emitted })
    by p fine false = tt

-- a small item more is emitted
emit_leaves : (i : Item) → IsSmall i → Leaves Nothing (emit i)
emit_leaves i small = record {
  left = λ p fine. (tt, record { written = fine.written; emitted = each-push IsSmall p.emitted i fine.emitted small });
}

-- each branch leaves it
if_leaves : {A : Type 0} {P : A → Type 0} {f h : Stepping Own A} (b : Bool) → Leaves P f → Leaves P h
    → Leaves P (λ p. cond b f h p)
if_leaves true first second = record { left = first.left }
if_leaves false first second = record { left = second.left }

-- what is big stops the run, and what isn't is small
sized_leaves : (i : Item) → Leaves IsSmall (sized i)
sized_leaves i = by (is_big i) refl
  where
    by : (b : Bool) → is_big i ≡ b → Leaves IsSmall (λ p. cond b (stop_by stop.Big) (pure i) p)
    by true e = record { left = λ p fine. tt }
    by false e = record { left = λ p fine. (small_sized i e, fine) }

module _ (s : PartialState) where
  -- the memory that the run reads and writes
  abbrev m : Memory Own
  m = own_memory s

  -- a read writes and emits nothing
  read_leaves : (r : ReadOp) (a : Address) → Leaves AnyItem (read_at m r a)
  read_leaves r a = record { left = λ p fine. by p fine (is_decided r (at_address a p.memory.operations)) (s a) }
    where
      by : (p : Progress Own) → IsFine p → (b : Bool) (v : Option Value)
          → Left AnyItem (answered a (cond b (Some
          (answer r (replay (at_address a p.memory.operations) (default_of a.kind)), p.memory))
          (own_value r a v p.memory)) p)
      by p fine true v = (tt, record { written = fine.written; emitted = fine.emitted })
      by p fine false None = tt
      by p fine false (Some v) = (tt, record { written = fine.written; emitted = fine.emitted })

  -- a filed write more
  write_leaves : (a : Address) (w : WriteOp) → IsFiledWrite (a, w) → Leaves Nothing (write_at m a w)
  write_leaves a w filed = record {
    left = λ p fine. (
      tt,
      record {
        written = each-push IsFiledWrite p.memory.operations
            (a, w) fine.written filed;
        emitted = fine.emitted;
      },
    );
  }

  -- nothing is written, or what is of its kind and short
  maybe_leaves : (a : Address) (w : Option WriteOp) → IsShort a.key → IsOfKind a.kind w → IsShortMaybe w
      → Leaves Nothing (write_maybe m a w)
  maybe_leaves a None key of short = pure_leaves Nothing unit tt
  maybe_leaves a (Some w) key of short = write_leaves a w (record { key = key; kind = of; texts = short })

  -- ---- the equations of the folds

  -- a node does what its rule makes of what stands in it
  node_rolled : (z : ExprNode-F ExprNode Expr Operand) → node_run m (roll-ExprNode z) ≡ of_node m (deep m z)
  node_rolled z =
      fold-roll-ExprNode (Expression Own) (Expression Own) (Operator × Expression Own) (of_node m) of_expr of_operand z

  -- an expression does what its node does
  expr_rolled : (z : Expr-F ExprNode Expr Operand) → expr_of m (roll-Expr z) ≡ node_run m z.node
  expr_rolled z =
      fold-roll-Expr (Expression Own) (Expression Own) (Operator × Expression Own) (of_node m) of_expr of_operand z

  -- an operand has its operator, and does what its value does
  operand_rolled : (z : Operand-F ExprNode Expr Operand)
      → operand_of m (roll-Operand z) ≡ (z.operator, expr_of m z.value)
  operand_rolled z =
      fold-roll-Operand (Expression Own) (Expression Own) (Operator × Expression Own) (of_node m) of_expr of_operand z

  -- what a statement does
  abbrev stmt_of : Stmt → Statement Own
  stmt_of = stmt_run m

  -- a statement's node, with what the statements in it do
  abbrev deep_step : StmtNode-F StmtNode Stmt → StmtNode-F (Statement Own) (Statement Own)
  deep_step = map-StmtNode StmtNode Stmt (Statement Own) (Statement Own) (step_run m) stmt_of

  -- a statement's node does what its rule makes of what stands in it
  step_rolled : (z : StmtNode-F StmtNode Stmt) → step_run m (roll-StmtNode z) ≡ of_step m (deep_step z)
  step_rolled z = fold-roll-StmtNode (Statement Own) (Statement Own) (of_step m) of_stmt z

  -- a statement charges its tick and does what its node does
  stmt_rolled : (z : Stmt-F StmtNode Stmt)
      → stmt_of (roll-Stmt z) ≡ of_stmt (map-Stmt StmtNode Stmt (Statement Own) (Statement Own) (step_run m) stmt_of z)
  stmt_rolled z = fold-roll-Stmt (Statement Own) (Statement Own) (of_step m) of_stmt z

  -- ---- expressions

  -- an expression that gives small items where names stand for small ones
  abbrev AsExpression : Expression Own → Type 0
  AsExpression f = (names : Names) → AreSmall names → Leaves IsSmall (f names)

  -- an operand that does so
  abbrev AsOperand : Operand → Type 0
  AsOperand o = AsExpression (operand_of m o).1

  -- one layer: each child is some expression, by h, and gives small items
  module _ {N E O : Type 0} (hN : N → ExprNode) (hE : E → Expr) (hO : O → Operand)
      (nodes : (x : N) → AsExpression (node_run m (hN x)))
      (exprs : (e : E) → AsExpression (expr_of m (hE e)))
      (operands : (o : O) → AsOperand (hO o)) where
    -- expression by expression: what each gives is small and stands behind small ones
    values_leave : (is : List Item) → AllSmall is → (es : List E) (names : Names) → AreSmall names
        → Leaves AllSmall (all_values is (map (expr_of m) (map hE es)) names)
    values_leave is all [] names small = pure_leaves AllSmall is all
    values_leave is all (e ∷ es) names small =
        then_leaves (exprs e names small) (λ i one. values_leave (is ++ i ∷ [])
        (each-push IsSmall is i all one) es names small)

    -- the small item so far decides, or what the operand is joined to is sized
    link_leaves : (i : Item) → IsSmall i → (o : O) (names : Names) → AreSmall names
        → Leaves IsSmall (link (operand_of m (hO o)).0 i (operand_of m (hO o)).1 names)
    link_leaves i is o names small =
        if_leaves (decides (operand_of m (hO o)).0 i) (pure_leaves IsSmall i is)
        (then_leaves (operands o names small) (λ j _. sized_leaves (joined (operand_of m (hO o)).0 i j)))

    -- operand by operand, each from the small item that the one before it gave
    chain_leaves : (i : Item) → IsSmall i → (os : List O) (names : Names) → AreSmall names
        → Leaves IsSmall (chain i (map (operand_of m) (map hO os)) names)
    chain_leaves i is [] names small = pure_leaves IsSmall i is
    chain_leaves i is (o ∷ os) names small =
        then_leaves (link_leaves i is o names small) (λ j one. chain_leaves j one os names small)

    -- form by form: the expressions in it go one after another
    layer_leaves : (y : ExprNode-F N E O)
        → AsExpression (of_node m (deep m (map-ExprNode N E O ExprNode Expr Operand hN hE hO y)))
    layer_leaves (ExprNode-F.Number k) names small =
        then_leaves (charge_leaves 1) (λ _ _. pure_leaves IsSmall (item.Int k) tt)
    layer_leaves (ExprNode-F.Text t) names small = then_leaves (charge_leaves 1) (λ _ _. sized_leaves (item.Text t))
    layer_leaves (ExprNode-F.Bool b) names small =
        then_leaves (charge_leaves 1) (λ _ _. pure_leaves IsSmall (item.Bool b) tt)
    layer_leaves (ExprNode-F.Name x) names small =
        then_leaves (charge_leaves 1) (λ _ _. pure_leaves IsSmall _ (small_named names x small))
    layer_leaves (ExprNode-F.Texts es) names small =
        then_leaves (charge_leaves 1) (λ _ _. then_leaves (values_leave [] tt es names small)
        (λ is _. sized_leaves (item.Texts (map text_in is))))
    layer_leaves (ExprNode-F.Len e) names small =
        then_leaves (charge_leaves 1) (λ _ _. then_leaves (exprs e names small) (λ i _. pure_leaves IsSmall _ tt))
    layer_leaves (ExprNode-F.Str e) names small =
        then_leaves (charge_leaves 1) (λ _ _. then_leaves (exprs e names small)
        (λ i _. pure_leaves IsSmall _ (small_decimal _)))
    layer_leaves (ExprNode-F.Negative e) names small =
        then_leaves (charge_leaves 1) (λ _ _. then_leaves (exprs e names small) (λ i _. pure_leaves IsSmall _ tt))
    layer_leaves (ExprNode-F.Not e) names small =
        then_leaves (charge_leaves 1) (λ _ _. then_leaves (exprs e names small) (λ i _. pure_leaves IsSmall _ tt))
    layer_leaves (ExprNode-F.Compare e r f) names small =
        then_leaves (charge_leaves 1) (λ _ _. then_leaves (exprs e names small)
        (λ i _. then_leaves (exprs f names small)
        (λ j _. pure_leaves IsSmall _ tt)))
    layer_leaves (ExprNode-F.Chain e os) names small =
        then_leaves (charge_leaves _) (λ _ _. then_leaves (exprs e names small)
        (λ i is. chain_leaves i is os names small))
    layer_leaves (ExprNode-F.Read k e word es) names small =
        then_leaves (charge_leaves 1) (λ _ _. then_leaves (exprs e names small)
        (λ key _. then_leaves (values_leave [] tt es names small)
        (λ is _. then_leaves (read_leaves (read_of k word is) (address_of k key))
        (λ i _. then_leaves (charge_leaves (elements_in i)) (λ _ _. sized_leaves i)))))

    -- a node gives small items where what stands in it does
    node_layer : (x : ExprNode-F ExprNode Expr Operand) (y : ExprNode-F N E O)
        → map-ExprNode N E O ExprNode Expr Operand hN hE hO y ≡ x
        → AsExpression (node_run m (roll-ExprNode x))
    node_layer x y is =
        subst (λ w. AsExpression (node_run m (roll-ExprNode w))) is
        (subst AsExpression (sym (node_rolled (map-ExprNode N E O ExprNode Expr Operand hN hE hO y))) (layer_leaves y))

    -- an expression does so where its node does
    expr_layer : (x : Expr-F ExprNode Expr Operand) (y : Expr-F N E O)
        → map-Expr N E O ExprNode Expr Operand hN hE hO y ≡ x
        → AsExpression (expr_of m (roll-Expr x))
    expr_layer x y is =
        subst (λ w. AsExpression (expr_of m (roll-Expr w))) is
        (subst AsExpression (sym (expr_rolled (map-Expr N E O ExprNode Expr Operand hN hE hO y))) (nodes y.node))

    -- an operand does so where its value does
    operand_layer : (x : Operand-F ExprNode Expr Operand) (y : Operand-F N E O)
        → map-Operand N E O ExprNode Expr Operand hN hE hO y ≡ x
        → AsOperand (roll-Operand x)
    operand_layer x y is =
        subst (λ w. AsOperand (roll-Operand w)) is
        (subst (λ (f : Operator × Expression Own). AsExpression f.1)
        (sym (operand_rolled (map-Operand N E O ExprNode Expr Operand hN hE hO y)))
        (exprs y.value))

  -- by induction over expressions
  expr_leaves : (e : Expr) → AsExpression (expr_of m e)
  expr_leaves = ind-Expr (λ x. AsExpression (node_run m x)) (λ e. AsExpression (expr_of m e)) AsOperand
      (λ x y is. node_layer (λ e. e.0) (λ e. e.0) (λ e. e.0) (λ e. e.1) (λ e. e.1) (λ e. e.1) x y is)
      (λ x y is. expr_layer (λ e. e.0) (λ e. e.0) (λ e. e.0) (λ e. e.1) (λ e. e.1) (λ e. e.1) x y is)
      (λ x y is. operand_layer (λ e. e.0) (λ e. e.0) (λ e. e.0) (λ e. e.1) (λ e. e.1) (λ e. e.1) x y is)

  -- ---- statements

  -- statements from small names to small names
  abbrev AsStatement : Statement Own → Type 0
  AsStatement f = (names : Names) → AreSmall names → Leaves AreSmall (f names)

  -- expression by expression, as all expressions go
  plain_values : (is : List Item) → AllSmall is → (es : List Expr) (names : Names) → AreSmall names
      → Leaves AllSmall (all_values is (map (expr_run m) es) names)
  plain_values is all [] names small = pure_leaves AllSmall is all
  plain_values is all (e ∷ es) names small =
      then_leaves (expr_leaves e names small) (λ i one. plain_values (is ++ i ∷ [])
      (each-push IsSmall is i all one) es names small)

  -- a block forgets the names that it bound
  forget_leaves : (names after : Names) → AreSmall after → Leaves AreSmall (pure (take (length names) after))
  forget_leaves names after small = pure_leaves AreSmall _ (each-take (λ x. IsSmall x.1) (length names) after small)

  -- names that all stand for small items still do with one more
  bind_small : (names : Names) (x : Bytes) (i : Item) → AreSmall names → IsSmall i → AreSmall (names ++ (x, i) ∷ [])
  bind_small names x i small one = each-push (λ x. IsSmall x.1) names (x, i) small one

  module _ {N X : Type 0} (hN : N → StmtNode) (hS : X → Stmt)
      (nodes : (x : N) → AsStatement (step_run m (hN x)))
      (stmts : (t : X) → AsStatement (stmt_of (hS t))) where
    -- statement by statement, each from the small names that the one before it left
    all_leave : (ss : List X) → AsStatement (all_steps (map stmt_of (map hS ss)))
    all_leave [] names small = pure_leaves AreSmall names small
    all_leave (t ∷ ss) names small = then_leaves (stmts t names small) (λ after all. all_leave ss after all)

    -- its statements go, and then it forgets names
    block_leaves : (ss : List X) → AsStatement (block (map stmt_of (map hS ss)))
    block_leaves ss names small = then_leaves (all_leave ss names small) (λ after all. forget_leaves names after all)

    -- turn by turn: each binds a short text, and its statements go
    turns_leave : (x : Bytes) (ss : List X) (ts : List Bytes) → AllByRecursion IsShortText ts
        → AsStatement (turns x (map stmt_of (map hS ss)) ts)
    turns_leave x ss [] short names small = pure_leaves AreSmall names small
    turns_leave x ss (t ∷ ts) short names small =
        then_leaves (then_leaves (charge_leaves 1) (λ _ _. then_leaves (all_leave ss (names ++ (x, item.Text t) ∷ [])
        (bind_small names x (item.Text t) small short.0))
        (λ after all. forget_leaves names after all)))
        (λ after all. turns_leave x ss ts short.1 after all)

    -- form by form: expressions and blocks in it go one after another
    step_layer_leaves : (y : StmtNode-F N X)
        → AsStatement (of_step m (deep_step (map-StmtNode N X StmtNode Stmt hN hS y)))
    step_layer_leaves (StmtNode-F.Let x e) names small =
        then_leaves (expr_leaves e names small) (λ i one. pure_leaves AreSmall (names ++ (x, i) ∷ [])
        (bind_small names x i small one))
    step_layer_leaves (StmtNode-F.Emit e) names small =
        then_leaves (expr_leaves e names small) (λ i one.
        then_leaves (then_leaves (carry_leaves (8 + size_of i)) (λ _ _. emit_leaves i one))
        (λ _ _. pure_leaves AreSmall names small))
    step_layer_leaves (StmtNode-F.Fail e) names small =
        then_leaves (expr_leaves e names small) (λ i one. record { left = λ p fine. small_text i one })
    step_layer_leaves (StmtNode-F.If e ss None) names small =
        then_leaves (expr_leaves e names small) (λ i _. if_leaves (bool_in i) (block_leaves ss names small)
        (pure_leaves AreSmall names small))
    step_layer_leaves (StmtNode-F.If e ss (Some ts)) names small =
        then_leaves (expr_leaves e names small) (λ i _. if_leaves (bool_in i) (block_leaves ss names small)
        (block_leaves ts names small))
    step_layer_leaves (StmtNode-F.For x e ss) names small =
        then_leaves (expr_leaves e names small) (λ i one. turns_leave x ss (texts_in i) (small_texts i one) names small)
    step_layer_leaves (StmtNode-F.Write k e word es) names small =
        then_leaves (expr_leaves e names small) (λ key key_small. then_leaves (plain_values [] tt es names small)
        (λ is all.
        then_leaves (then_leaves (carry_leaves (8 + length (text_in key) + sum (map text_size is)))
        (λ _ _. maybe_leaves (address_of k key) (write_of k word is) (small_text key key_small) (write_fits k word is)
        (write_short k word is all)))
        (λ _ _. pure_leaves AreSmall names small)))

    -- a statement's node goes where what stands in it does
    step_layer : (x : StmtNode-F StmtNode Stmt) (y : StmtNode-F N X) → map-StmtNode N X StmtNode Stmt hN hS y ≡ x
        → AsStatement (step_run m (roll-StmtNode x))
    step_layer x y is =
        subst (λ w. AsStatement (step_run m (roll-StmtNode w))) is
        (subst AsStatement (sym (step_rolled (map-StmtNode N X StmtNode Stmt hN hS y))) (step_layer_leaves y))

    -- a statement charges its tick and goes as its node does
    stmt_layer : (x : Stmt-F StmtNode Stmt) (y : Stmt-F N X) → map-Stmt N X StmtNode Stmt hN hS y ≡ x
        → AsStatement (stmt_of (roll-Stmt x))
    stmt_layer x y is =
        subst (λ w. AsStatement (stmt_of (roll-Stmt w))) is
        (subst AsStatement (sym (stmt_rolled (map-Stmt N X StmtNode Stmt hN hS y)))
        (λ names small. then_leaves (charge_leaves 1) (λ _ _. nodes y.node names small)))

  -- by induction over statements
  stmt_leaves : (t : Stmt) → AsStatement (stmt_run m t)
  stmt_leaves = ind-Stmt (λ x. AsStatement (step_run m x)) (λ t. AsStatement (stmt_of t))
      (λ x y is. step_layer (λ e. e.0) (λ e. e.0) (λ e. e.1) (λ e. e.1) x y is)
      (λ x y is. stmt_layer (λ e. e.0) (λ e. e.0) (λ e. e.1) (λ e. e.1) x y is)

  -- statement by statement, each from the small names that the one before it left
  statements_leave : (ss : List Stmt) → AsStatement (all_steps (map (stmt_run m) ss))
  statements_leave [] names small = pure_leaves AreSmall names small
  statements_leave (t ∷ ss) names small =
      then_leaves (stmt_leaves t names small) (λ after all. statements_leave ss after all)

  -- the run of a body leaves what is filed and small, from where a run was fine
  pub body_leaves : (b : Body) → Leaves AreSmall (body_run m b)
  body_leaves b = statements_leave b.stmts [] tt
