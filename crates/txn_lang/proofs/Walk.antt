-- One induction over the forms of the language: a relation of runs over two memories that the rules' own steps keep relates the
-- runs of every body. On the way it shows that what expressions give is small, so that each read asks for short texts.
use Rattle.std.proofs.Common.{◌≡◌, ℕ, suc, sum, ◌+◌, Bool, true, false, List, [], ◌∷◌, ◌++◌, map, length, take, Option, Some, None, refl, ap, sym, subst, cond}
use Rattle.std.specs.List.{AllByRecursion}
use Rattle.plain_data.specs.Texts.{Bytes}
use Rattle.rdt_types.specs.declared.address.Address.{Address}
use Rattle.rdt_types.specs.declared.operation.WriteOp.{WriteOp}
use Rattle.rdt_types.specs.declared.outcome.Item.{Item}
use Rattle.rdt_types.specs.declared.outcome.Item.TheVariants as item
use Rattle.rdt_types.specs.Values.{kind_written}
use Rattle.conflict_table.specs.declared.read.ReadOp.{ReadOp}
use Rattle.txn_trees.specs.declared.word.Operator.{Operator}
use Rattle.txn_trees.specs.declared.expression.Expr.{Expr, map-Expr, roll-Expr}
use Rattle.txn_trees.specs.declared.expression.ExprNode.{ExprNode, map-ExprNode, roll-ExprNode}
use Rattle.txn_trees.specs.declared.expression.ExprNode.TheOpen.{ExprNode-F, Expr-F, Operand-F}
use Rattle.txn_trees.specs.declared.expression.ExprNode.TheFolds.{fold-roll-Expr, fold-roll-Operand, fold-roll-ExprNode, ind-Expr}
use Rattle.txn_trees.specs.declared.expression.Operand.{Operand, map-Operand, roll-Operand}
use Rattle.txn_trees.specs.declared.statement.Stmt.{Stmt, map-Stmt, roll-Stmt}
use Rattle.txn_trees.specs.declared.statement.StmtNode.{StmtNode, map-StmtNode, roll-StmtNode}
use Rattle.txn_trees.specs.declared.statement.StmtNode.TheOpen.{StmtNode-F, Stmt-F}
use Rattle.txn_trees.specs.declared.statement.StmtNode.TheFolds.{fold-roll-StmtNode, fold-roll-Stmt, ind-Stmt}
use Rattle.txn_trees.specs.declared.statement.Body.{Body}
use Rattle.txn_lang.specs.declared.progress.Progress.{Progress}
use Rattle.txn_lang.specs.declared.progress.Stop.TheVariants as stop
use Rattle.txn_lang.specs.Steps.{Memory, Step, stopped, gives, Stepping, and_then, ◌>>=◌, pure, stop_by, charge, carry, emit, read_at, write_at}
use Rattle.txn_lang.specs.Items.{Names, bool_in, text_in, texts_in, size_of, is_big, decides, joined, read_of, write_of, text_size, elements_in}
use Rattle.txn_lang.specs.Rules.{Expression, Statement, sized, all_values, link, chain, address_of, of_node, of_expr, of_operand, node_run, expr_run}
use Rattle.txn_lang.specs.Rules.{operand_run, body_run, all_steps, block, turns, write_maybe, of_step, of_stmt, step_run, stmt_run}
use Rattle.txn_lang.proofs.Each.{each-push, each-take}
use Rattle.txn_lang.proofs.Words.{IsOfKind, write_fits, Suits, read_suits}
use Rattle.txn_lang.proofs.Sizes.{IsShortText, IsSmall, AllSmall, AreSmall, small_text, small_texts, small_sized, small_decimal, small_named}
use Rattle.txn_lang.proofs.Sizes.{IsShortRead, read_short}

-- what is given by a step that gives nothing
abbrev unit : Unit {0}
unit = tt

module _ {M : Type 0} (m : Memory M) where
  -- what an expression does over this memory
  abbrev pub expr_of : Expr → Expression M
  expr_of = expr_run m

  -- a further operand over this memory, with its operator
  abbrev pub operand_of : Operand → Operator × Expression M
  operand_of = operand_run m

  -- a node, with what the expressions in it do
  abbrev pub deep : ExprNode-F ExprNode Expr Operand → ExprNode-F (Expression M) (Expression M) (Operator × Expression M)
  deep = map-ExprNode ExprNode Expr Operand (Expression M) (Expression M) (Operator × Expression M) (node_run m) expr_of operand_of

  -- a node does what its rule makes of what stands in it: the equation of the fold
  node_rolled : (z : ExprNode-F ExprNode Expr Operand) → node_run m (roll-ExprNode z) ≡ of_node m (deep z)
  node_rolled z = fold-roll-ExprNode (Expression M) (Expression M) (Operator × Expression M) (of_node m) of_expr of_operand z

  -- an expression does what its node does
  expr_rolled : (z : Expr-F ExprNode Expr Operand) → expr_of (roll-Expr z) ≡ node_run m z.node
  expr_rolled z = fold-roll-Expr (Expression M) (Expression M) (Operator × Expression M) (of_node m) of_expr of_operand z

  -- an operand has its operator, and does what its value does
  operand_rolled : (z : Operand-F ExprNode Expr Operand) → operand_of (roll-Operand z) ≡ (z.operator, expr_of z.value)
  operand_rolled z = fold-roll-Operand (Expression M) (Expression M) (Operator × Expression M) (of_node m) of_expr of_operand z

  -- what a statement does over this memory
  abbrev stmt_of : Stmt → Statement M
  stmt_of = stmt_run m

  -- a statement's node, with what the statements in it do
  abbrev deep_step : StmtNode-F StmtNode Stmt → StmtNode-F (Statement M) (Statement M)
  deep_step = map-StmtNode StmtNode Stmt (Statement M) (Statement M) (step_run m) stmt_of

  -- a statement's node does what its rule makes of what stands in it: the equation of the fold
  step_rolled : (z : StmtNode-F StmtNode Stmt) → step_run m (roll-StmtNode z) ≡ of_step m (deep_step z)
  step_rolled z = fold-roll-StmtNode (Statement M) (Statement M) (of_step m) of_stmt z

  -- a statement charges its tick and does what its node does
  stmt_rolled : (z : Stmt-F StmtNode Stmt) → stmt_of (roll-Stmt z) ≡ of_stmt (map-Stmt StmtNode Stmt (Statement M) (Statement M) (step_run m) stmt_of z)
  stmt_rolled z = fold-roll-Stmt (Statement M) (Statement M) (of_step m) of_stmt z

-- ---- what is carried along

module _ {S : Type 0} where
  -- what a step gives is so
  abbrev pub Gave : {A : Type 0} → (A → Type 0) → Step S A → Type 0
  Gave P (gives x p) = P x
  Gave P (stopped s p) = Unit {0}

  -- what is given is so, however far the run has come
  abbrev pub Gives : {A : Type 0} → (A → Type 0) → Stepping S A → Type 0
  Gives P f = (p : Progress S) → Gave P (f p)

  -- nothing is asked of what is given, so whatever the step does is fine
  pub gave_any : {A : Type 0} (u : Step S A) → Gave (λ x. Unit {0}) u
  gave_any (gives x p) = tt
  gave_any (stopped s p) = tt

-- A relation of runs that the rules' own steps keep. Its number says how many reads no tick has paid for yet.
pub record Keeps {S T : Type 0} (Rel : ℕ → (A : Type 0) → Stepping S A → Stepping T A → Type 0) : Type 1 where
  pub pure_kept : (A : Type 0) (x : A) → Rel 0 A (pure x) (pure x)
  pub then_kept : (A B : Type 0) (c d : ℕ) (P : A → Type 0) (f : Stepping S A) (g : Stepping T A) (h : A → Stepping S B) (k : A → Stepping T B)
      → Gives P f → Rel c A f g → ((x : A) → P x → Rel d B (h x) (k x)) → Rel (c + d) B (f >>= h) (g >>= k)
  pub tick_kept : (A : Type 0) (f : Stepping S A) (g : Stepping T A) → Rel 1 A f g → Rel 0 A (charge 1 >>= (λ _. f)) (charge 1 >>= (λ _. g))
  pub big_kept : (A : Type 0) → Rel 0 A (stop_by stop.Big) (stop_by stop.Big)
  pub fail_kept : (A : Type 0) (t : Bytes) → Rel 0 A (stop_by (stop.Fail t)) (stop_by (stop.Fail t))
  pub charge_kept : (n : ℕ) → Rel 0 (Unit {0}) (charge n) (charge n)
  pub carry_kept : (n : ℕ) → Rel 0 (Unit {0}) (carry n) (carry n)
  pub emit_kept : (i : Item) → Rel 0 (Unit {0}) (emit i) (emit i)

module _ {S T : Type 0} (Rel : ℕ → (A : Type 0) → Stepping S A → Stepping T A → Type 0) (keeps : Keeps Rel) where
  -- the runs are related, and what the first gives is so
  pub record Goes {A : Type 0} (owed : ℕ) (P : A → Type 0) (f : Stepping S A) (g : Stepping T A) : Type 0 where
    pub related : Rel owed A f g
    pub given : Gives P f

  -- nothing is asked of what a step gives that gives nothing
  abbrev Any : Unit {0} → Type 0
  Any _ = Unit {0}

  -- nothing happens on either side, and what is given is so
  pure_goes : {A : Type 0} (P : A → Type 0) (x : A) → P x → Goes 0 P (pure x) (pure x)
  pure_goes {A} P x is = record { related = keeps.pure_kept A x; given = λ p. is }

  -- the first parts go, and so do the second ones from all that the first may give; what they owe adds up
  then_owing : {A B : Type 0} (c d : ℕ) {P : A → Type 0} {Q : B → Type 0} {f : Stepping S A} {g : Stepping T A} {h : A → Stepping S B} {k : A → Stepping T B}
      → Goes c P f g → ((x : A) → P x → Goes d Q (h x) (k x)) → Goes (c + d) Q (f >>= h) (g >>= k)
  then_owing {A} {B} c d {P} {Q} {f} {g} {h} {k} fg hk = record {
    related = keeps.then_kept A B c d P f g h k fg.given fg.related (λ x is. (hk x is).related);
    given = λ p. by (f p) (fg.given p);
  }
    where
      by : (u : Step S A) → Gave P u → Gave Q (and_then u h)
      by (gives x q) is = (hk x is).given q
      by (stopped s q) is = tt

  -- where neither part owes anything, both in turn owe nothing
  then_goes : {A B : Type 0} {P : A → Type 0} {Q : B → Type 0} {f : Stepping S A} {g : Stepping T A} {h : A → Stepping S B} {k : A → Stepping T B}
      → Goes 0 P f g → ((x : A) → P x → Goes 0 Q (h x) (k x)) → Goes 0 Q (f >>= h) (g >>= k)
  then_goes fg hk = then_owing 0 0 fg hk

  -- the tick pays for the one read that is owed behind it
  tick_goes : {A : Type 0} {P : A → Type 0} {f : Stepping S A} {g : Stepping T A} → Goes 1 P f g → Goes 0 P (charge 1 >>= (λ _. f)) (charge 1 >>= (λ _. g))
  tick_goes {A} {P} {f} {g} fg = record { related = keeps.tick_kept A f g fg.related; given = λ p. by (charge 1 p) }
    where
      by : (u : Step S (Unit {0})) → Gave P (and_then u (λ _. f))
      by (gives x q) = fg.given q
      by (stopped s q) = tt

  -- a charge is a step of the rules' own, so it is kept
  charge_goes : (n : ℕ) → Goes 0 Any (charge n) (charge n)
  charge_goes n = record { related = keeps.charge_kept n; given = λ p. gave_any (charge n p) }

  -- both sides charge the same number, however it is reckoned
  charge_alike : {k l : ℕ} → k ≡ l → Goes 0 Any (charge k) (charge l)
  charge_alike {k} {l} e = subst (λ j. Goes 0 Any (charge k) (charge j)) e (charge_goes k)

  -- a load is a step of the rules' own, so it is kept
  carry_goes : (n : ℕ) → Goes 0 Any (carry n) (carry n)
  carry_goes n = record { related = keeps.carry_kept n; given = λ p. gave_any (carry n p) }

  -- an emission is a step of the rules' own, so it is kept
  emit_goes : (i : Item) → Goes 0 Any (emit i) (emit i)
  emit_goes i = record { related = keeps.emit_kept i; given = λ p. tt }

  -- both sides take the same branch, and each branch goes
  if_goes : {A : Type 0} {P : A → Type 0} {f h : Stepping S A} {g k : Stepping T A} (b : Bool)
      → Goes 0 P f g → Goes 0 P h k → Goes 0 P (λ p. cond b f h p) (λ p. cond b g k p)
  if_goes true fg hk = record { related = fg.related; given = fg.given }
  if_goes false fg hk = record { related = hk.related; given = hk.given }

  -- ---- the rules' own combinators

  -- what is big stops both sides, and what isn't is small and given by both
  sized_goes : (i : Item) → Goes 0 IsSmall (sized i) (sized i)
  sized_goes i = by (is_big i) refl
    where
      by : (b : Bool) → is_big i ≡ b → Goes 0 IsSmall (λ p. cond b (stop_by stop.Big) (pure i) p) (λ p. cond b (stop_by stop.Big) (pure i) p)
      by true e = record { related = keeps.big_kept Item; given = λ p. tt }
      by false e = record { related = keeps.pure_kept Item i; given = λ p. small_sized i e }

  -- expressions over both memories
  abbrev AsExpression : Expression S → Expression T → Type 0
  AsExpression f g = (names : Names) → AreSmall names → Goes 0 IsSmall (f names) (g names)

  module _ (m : Memory S) (n : Memory T) where
    -- the operator is the same over both memories, and the operand goes
    abbrev AsOperand : Operand → Type 0
    AsOperand o = ((operand_of m o).0 ≡ (operand_of n o).0) × AsExpression (operand_of m o).1 (operand_of n o).1

    module _ (reads : (r : ReadOp) (a : Address) → Suits a.kind r → IsShortRead a r → Rel 1 Item (read_at m r a) (read_at n r a)) where
      -- reads are related, owe one tick, and nothing is asked of what they give
      read_goes : (r : ReadOp) (a : Address) → Suits a.kind r → IsShortRead a r → Goes 1 (λ i. Unit {0}) (read_at m r a) (read_at n r a)
      read_goes r a suits short = record { related = reads r a suits short; given = λ p. gave_any (read_at m r a p) }

      -- one layer: each child is some expression, by h, and is related
      module _ {N E O : Type 0} (hN : N → ExprNode) (hE : E → Expr) (hO : O → Operand)
          (nodes : (x : N) → AsExpression (node_run m (hN x)) (node_run n (hN x)))
          (exprs : (e : E) → AsExpression (expr_of m (hE e)) (expr_of n (hE e)))
          (operands : (o : O) → AsOperand (hO o)) where
        -- expression by expression: what each gives is small and stands behind small ones
        values_go : (is : List Item) → AllSmall is → (es : List E) (names : Names) → AreSmall names
            → Goes 0 AllSmall (all_values is (map (expr_of m) (map hE es)) names) (all_values is (map (expr_of n) (map hE es)) names)
        values_go is all [] names small = pure_goes AllSmall is all
        values_go is all (e ∷ es) names small =
            then_goes (exprs e names small) (λ i one. values_go (is ++ i ∷ []) (each-push IsSmall is i all one) es names small)

        -- both sides have the same operator, so both stop at the item so far, or both join the operand to it
        link_goes : (i : Item) → IsSmall i → (o : O) (names : Names) → AreSmall names
            → Goes 0 IsSmall (link (operand_of m (hO o)).0 i (operand_of m (hO o)).1 names) (link (operand_of n (hO o)).0 i (operand_of n (hO o)).1 names)
        link_goes i is o names small =
            let op = (operand_of m (hO o)).0 in
            subst (λ q. Goes 0 IsSmall (link op i (operand_of m (hO o)).1 names) (link q i (operand_of n (hO o)).1 names)) (operands o).0
            (if_goes (decides op i) (pure_goes IsSmall i is) (then_goes ((operands o).1 names small) (λ j _. sized_goes (joined op i j))))

        -- operand by operand, each from the small item that the one before it gave
        chain_goes : (i : Item) → IsSmall i → (os : List O) (names : Names) → AreSmall names
            → Goes 0 IsSmall (chain i (map (operand_of m) (map hO os)) names) (chain i (map (operand_of n) (map hO os)) names)
        chain_goes i is [] names small = pure_goes IsSmall i is
        chain_goes i is (o ∷ os) names small = then_goes (link_goes i is o names small) (λ j one. chain_goes j one os names small)

        -- there are as many operands on both sides, one for one
        length_alike : (os : List O) → length (map (operand_of m) (map hO os)) ≡ length (map (operand_of n) (map hO os))
        length_alike [] = refl
        length_alike (o ∷ os) = ap (λ k. suc k) (length_alike os)

        -- form by form: the expressions in it go one after another, and a read is paid for by the tick of its node
        layer_goes : (y : ExprNode-F N E O)
            → AsExpression (of_node m (deep m (map-ExprNode N E O ExprNode Expr Operand hN hE hO y)))
            (of_node n (deep n (map-ExprNode N E O ExprNode Expr Operand hN hE hO y)))
        layer_goes (ExprNode-F.Number k) names small = then_goes (charge_goes 1) (λ _ _. pure_goes IsSmall (item.Int k) tt)
        layer_goes (ExprNode-F.Text t) names small = then_goes (charge_goes 1) (λ _ _. sized_goes (item.Text t))
        layer_goes (ExprNode-F.Bool b) names small = then_goes (charge_goes 1) (λ _ _. pure_goes IsSmall (item.Bool b) tt)
        layer_goes (ExprNode-F.Name x) names small = then_goes (charge_goes 1) (λ _ _. pure_goes IsSmall _ (small_named names x small))
        layer_goes (ExprNode-F.Texts es) names small =
            then_goes (charge_goes 1) (λ _ _. then_goes (values_go [] tt es names small) (λ is _. sized_goes (item.Texts (map text_in is))))
        layer_goes (ExprNode-F.Len e) names small = then_goes (charge_goes 1) (λ _ _. then_goes (exprs e names small) (λ i _. pure_goes IsSmall _ tt))
        layer_goes (ExprNode-F.Str e) names small =
            then_goes (charge_goes 1) (λ _ _. then_goes (exprs e names small) (λ i _. pure_goes IsSmall _ (small_decimal _)))
        layer_goes (ExprNode-F.Negative e) names small = then_goes (charge_goes 1) (λ _ _. then_goes (exprs e names small) (λ i _. pure_goes IsSmall _ tt))
        layer_goes (ExprNode-F.Not e) names small = then_goes (charge_goes 1) (λ _ _. then_goes (exprs e names small) (λ i _. pure_goes IsSmall _ tt))
        layer_goes (ExprNode-F.Compare e r f) names small =
            then_goes (charge_goes 1) (λ _ _. then_goes (exprs e names small) (λ i _. then_goes (exprs f names small) (λ j _. pure_goes IsSmall _ tt)))
        layer_goes (ExprNode-F.Chain e os) names small =
            then_goes (charge_alike (length_alike os)) (λ _ _. then_goes (exprs e names small) (λ i is. chain_goes i is os names small))
        layer_goes (ExprNode-F.Read k e word es) names small =
            tick_goes (then_owing 0 1 (exprs e names small) (λ key key_small. then_owing 0 1 (values_go [] tt es names small) (λ is all.
            then_owing 1 0 (read_goes (read_of k word is) (address_of k key) (read_suits k word is) (small_text key key_small, read_short k word is all))
            (λ i _. then_goes (charge_goes (elements_in i)) (λ _ _. sized_goes i)))))

        -- what is one layer over related children is related
        node_layer : (x : ExprNode-F ExprNode Expr Operand) (y : ExprNode-F N E O) → map-ExprNode N E O ExprNode Expr Operand hN hE hO y ≡ x
            → AsExpression (node_run m (roll-ExprNode x)) (node_run n (roll-ExprNode x))
        node_layer x y is =
            let z = map-ExprNode N E O ExprNode Expr Operand hN hE hO y in
            subst (λ w. AsExpression (node_run m (roll-ExprNode w)) (node_run n (roll-ExprNode w))) is
            (subst (λ f. AsExpression f (node_run n (roll-ExprNode z))) (sym (node_rolled m z))
            (subst (λ g. AsExpression (of_node m (deep m z)) g) (sym (node_rolled n z)) (layer_goes y)))

        -- an expression goes as its node does
        expr_layer : (x : Expr-F ExprNode Expr Operand) (y : Expr-F N E O) → map-Expr N E O ExprNode Expr Operand hN hE hO y ≡ x
            → AsExpression (expr_of m (roll-Expr x)) (expr_of n (roll-Expr x))
        expr_layer x y is =
            let z = map-Expr N E O ExprNode Expr Operand hN hE hO y in
            subst (λ w. AsExpression (expr_of m (roll-Expr w)) (expr_of n (roll-Expr w))) is
            (subst (λ f. AsExpression f (expr_of n (roll-Expr z))) (sym (expr_rolled m z))
            (subst (λ g. AsExpression (node_run m (hN y.node)) g) (sym (expr_rolled n z)) (nodes y.node)))

        -- an operand has the same operator on both sides, and goes as its value does
        operand_layer : (x : Operand-F ExprNode Expr Operand) (y : Operand-F N E O) → map-Operand N E O ExprNode Expr Operand hN hE hO y ≡ x
            → AsOperand (roll-Operand x)
        operand_layer x y is =
            let z = map-Operand N E O ExprNode Expr Operand hN hE hO y in
            subst (λ w. AsOperand (roll-Operand w)) is
            (subst (λ f. (f.0 ≡ (operand_of n (roll-Operand z)).0) × AsExpression f.1 (operand_of n (roll-Operand z)).1) (sym (operand_rolled m z))
            (subst (λ (g : Operator × Expression T). (y.operator ≡ g.0) × AsExpression (expr_of m (hE y.value)) g.1) (sym (operand_rolled n z))
            (refl, exprs y.value)))

      -- by induction over expressions: a layer goes where what stands in it does
      expr_goes : (e : Expr) → AsExpression (expr_of m e) (expr_of n e)
      expr_goes = ind-Expr (λ x. AsExpression (node_run m x) (node_run n x)) (λ e. AsExpression (expr_of m e) (expr_of n e)) AsOperand
          (λ x y is. node_layer (λ e. e.0) (λ e. e.0) (λ e. e.0) (λ e. e.1) (λ e. e.1) (λ e. e.1) x y is)
          (λ x y is. expr_layer (λ e. e.0) (λ e. e.0) (λ e. e.0) (λ e. e.1) (λ e. e.1) (λ e. e.1) x y is)
          (λ x y is. operand_layer (λ e. e.0) (λ e. e.0) (λ e. e.0) (λ e. e.1) (λ e. e.1) (λ e. e.1) x y is)

      module _ (writes : (a : Address) (o : WriteOp) → kind_written o ≡ a.kind → Rel 0 (Unit {0}) (write_at m a o) (write_at n a o)) where
        -- statements over both memories, from small names to small names
        abbrev AsStatement : Statement S → Statement T → Type 0
        AsStatement f g = (names : Names) → AreSmall names → Goes 0 AreSmall (f names) (g names)

        -- expression by expression, as all expressions go: what each gives is small
        plain_values : (is : List Item) → AllSmall is → (es : List Expr) (names : Names) → AreSmall names
            → Goes 0 AllSmall (all_values is (map (expr_run m) es) names) (all_values is (map (expr_run n) es) names)
        plain_values is all [] names small = pure_goes AllSmall is all
        plain_values is all (e ∷ es) names small =
            then_goes (expr_goes e names small) (λ i one. plain_values (is ++ i ∷ []) (each-push IsSmall is i all one) es names small)

        -- nothing is written, or a write that is of its address's kind
        write_goes : (a : Address) (w : Option WriteOp) → IsOfKind a.kind w → Goes 0 Any (write_maybe m a w) (write_maybe n a w)
        write_goes a None of = pure_goes Any unit tt
        write_goes a (Some o) of = record { related = writes a o of; given = λ p. tt }

        -- a block forgets the names that it bound
        forget_goes : (names after : Names) → AreSmall after → Goes 0 AreSmall (pure (take (length names) after)) (pure (take (length names) after))
        forget_goes names after small = pure_goes AreSmall _ (each-take (λ x. IsSmall x.1) (length names) after small)

        -- names that all stand for small items still do with one more
        bind_small : (names : Names) (x : Bytes) (i : Item) → AreSmall names → IsSmall i → AreSmall (names ++ (x, i) ∷ [])
        bind_small names x i small one = each-push (λ x. IsSmall x.1) names (x, i) small one

        module _ {N X : Type 0} (hN : N → StmtNode) (hS : X → Stmt)
            (nodes : (x : N) → AsStatement (step_run m (hN x)) (step_run n (hN x)))
            (stmts : (s : X) → AsStatement (stmt_of m (hS s)) (stmt_of n (hS s))) where
          -- statement by statement, each from the small names that the one before it left
          all_go : (ss : List X) → AsStatement (all_steps (map (stmt_of m) (map hS ss))) (all_steps (map (stmt_of n) (map hS ss)))
          all_go [] names small = pure_goes AreSmall names small
          all_go (s ∷ ss) names small = then_goes (stmts s names small) (λ after all. all_go ss after all)

          -- its statements go, and then it forgets names
          block_goes : (ss : List X) → AsStatement (block (map (stmt_of m) (map hS ss))) (block (map (stmt_of n) (map hS ss)))
          block_goes ss names small = then_goes (all_go ss names small) (λ after all. forget_goes names after all)

          -- turn by turn: each binds a short text, and its statements go
          turns_go : (x : Bytes) (ss : List X) (ts : List Bytes) → AllByRecursion IsShortText ts
              → AsStatement (turns x (map (stmt_of m) (map hS ss)) ts) (turns x (map (stmt_of n) (map hS ss)) ts)
          turns_go x ss [] short names small = pure_goes AreSmall names small
          turns_go x ss (t ∷ ts) short names small =
              then_goes (then_goes (charge_goes 1) (λ _ _. then_goes (all_go ss (names ++ (x, item.Text t) ∷ [])
              (bind_small names x (item.Text t) small short.0))
              (λ after all. forget_goes names after all)))
              (λ after all. turns_go x ss ts short.1 after all)

          -- form by form: expressions and blocks in it go one after another
          step_layer_goes : (y : StmtNode-F N X)
              → AsStatement (of_step m (deep_step m (map-StmtNode N X StmtNode Stmt hN hS y)))
              (of_step n (deep_step n (map-StmtNode N X StmtNode Stmt hN hS y)))
          step_layer_goes (StmtNode-F.Let x e) names small =
              then_goes (expr_goes e names small) (λ i one. pure_goes AreSmall (names ++ (x, i) ∷ []) (bind_small names x i small one))
          step_layer_goes (StmtNode-F.Emit e) names small =
              then_goes (expr_goes e names small) (λ i _.
              then_goes (then_goes (carry_goes (8 + size_of i)) (λ _ _. emit_goes i)) (λ _ _. pure_goes AreSmall names small))
          step_layer_goes (StmtNode-F.Fail e) names small =
              then_goes (expr_goes e names small) (λ i _. record { related = keeps.fail_kept Names (text_in i); given = λ p. tt })
          step_layer_goes (StmtNode-F.If e ss None) names small =
              then_goes (expr_goes e names small) (λ i _. if_goes (bool_in i) (block_goes ss names small) (pure_goes AreSmall names small))
          step_layer_goes (StmtNode-F.If e ss (Some ts)) names small =
              then_goes (expr_goes e names small) (λ i _. if_goes (bool_in i) (block_goes ss names small) (block_goes ts names small))
          step_layer_goes (StmtNode-F.For x e ss) names small =
              then_goes (expr_goes e names small) (λ i one. turns_go x ss (texts_in i) (small_texts i one) names small)
          step_layer_goes (StmtNode-F.Write k e word es) names small =
              then_goes (expr_goes e names small) (λ key _. then_goes (plain_values [] tt es names small) (λ is _.
              then_goes (then_goes (carry_goes (8 + length (text_in key) + sum (map text_size is)))
              (λ _ _. write_goes (address_of k key) (write_of k word is) (write_fits k word is)))
              (λ _ _. pure_goes AreSmall names small)))

          -- a statement's node goes where what stands in it does
          step_layer : (x : StmtNode-F StmtNode Stmt) (y : StmtNode-F N X) → map-StmtNode N X StmtNode Stmt hN hS y ≡ x
              → AsStatement (step_run m (roll-StmtNode x)) (step_run n (roll-StmtNode x))
          step_layer x y is =
              let z = map-StmtNode N X StmtNode Stmt hN hS y in
              subst (λ w. AsStatement (step_run m (roll-StmtNode w)) (step_run n (roll-StmtNode w))) is
              (subst (λ f. AsStatement f (step_run n (roll-StmtNode z))) (sym (step_rolled m z))
              (subst (λ g. AsStatement (of_step m (deep_step m z)) g) (sym (step_rolled n z)) (step_layer_goes y)))

          -- a statement behind its tick
          abbrev ticked : {M : Type 0} → Statement M → Statement M
          ticked f = λ names. charge 1 >>= (λ _. f names)

          -- a statement charges its tick and goes as its node does
          stmt_layer : (x : Stmt-F StmtNode Stmt) (y : Stmt-F N X) → map-Stmt N X StmtNode Stmt hN hS y ≡ x
              → AsStatement (stmt_of m (roll-Stmt x)) (stmt_of n (roll-Stmt x))
          stmt_layer x y is =
              let z = map-Stmt N X StmtNode Stmt hN hS y in
              subst (λ w. AsStatement (stmt_of m (roll-Stmt w)) (stmt_of n (roll-Stmt w))) is
              (subst (λ f. AsStatement f (stmt_of n (roll-Stmt z))) (sym (stmt_rolled m z))
              (subst (λ g. AsStatement (ticked (step_run m (hN y.node))) g) (sym (stmt_rolled n z))
              (λ names small. then_goes (charge_goes 1) (λ _ _. nodes y.node names small))))

        -- by induction over statements: a layer goes where what stands in it does
        stmt_goes : (s : Stmt) → AsStatement (stmt_run m s) (stmt_run n s)
        stmt_goes = ind-Stmt (λ x. AsStatement (step_run m x) (step_run n x)) (λ s. AsStatement (stmt_of m s) (stmt_of n s))
            (λ x y is. step_layer (λ e. e.0) (λ e. e.0) (λ e. e.1) (λ e. e.1) x y is)
            (λ x y is. stmt_layer (λ e. e.0) (λ e. e.0) (λ e. e.1) (λ e. e.1) x y is)

        -- statement by statement, each from the small names that the one before it left
        statements_go : (ss : List Stmt) → AsStatement (all_steps (map (stmt_run m) ss)) (all_steps (map (stmt_run n) ss))
        statements_go [] names small = pure_goes AreSmall names small
        statements_go (s ∷ ss) names small = then_goes (stmt_goes s names small) (λ after all. statements_go ss after all)

        -- the runs of a body are related
        pub body_related : (b : Body) → Rel 0 Names (body_run m b) (body_run n b)
        body_related b = (statements_go b.stmts [] tt).related
