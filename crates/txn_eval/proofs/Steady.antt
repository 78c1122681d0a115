-- What an expression does on some values it does on whatever more is known, unless it needs a value. It changes ticks, and what
-- is observed, which stays and gets more.
use Rattle.std.proofs.Common.{◌≡◌, ℕ, ◌+◌, nat_le, Bool, true, false, suc, List, [], ◌∷◌, ◌++◌, map, take, length, Option, Some, None, refl, sym, ap, ◌∙◌, subst, cond}
use Rattle.std.specs.List.{list_any}
use Rattle.rdt_types.specs.declared.address.Address.{Address}
use Rattle.rdt_types.specs.declared.delta.Delta.{Delta}
use Rattle.rdt_types.specs.declared.value.Value.{Value}
use Rattle.rdt_types.specs.Values.{default_of}
use Rattle.rdt_types.specs.DeltaMaps.{delta_at}
use Rattle.rdt_types.specs.declared.outcome.Item.{Item}
use Rattle.rdt_types.specs.declared.outcome.Item.TheVariants as item
use Rattle.conflict_table.specs.declared.read.ReadOp.{ReadOp}
use Rattle.conflict_table.specs.Reads.{answer}
use Rattle.conflict_table.specs.Composed.{left_by, is_decided_by}
use Rattle.txn_trees.specs.declared.word.Operator.{Operator}
use Rattle.txn_trees.specs.declared.expression.Expr.{Expr, map-Expr, roll-Expr}
use Rattle.txn_trees.specs.declared.expression.ExprNode.{ExprNode, map-ExprNode, roll-ExprNode}
use Rattle.txn_trees.specs.declared.expression.ExprNode.TheOpen.{ExprNode-F, Expr-F, Operand-F}
use Rattle.txn_trees.specs.declared.expression.ExprNode.TheFolds.{fold-roll-Expr, fold-roll-Operand, fold-roll-ExprNode, ind-Expr}
use Rattle.txn_trees.specs.declared.expression.Operand.{Operand, map-Operand, roll-Operand}
use Rattle.write_buffer.specs.declared.asked.Asked.{Asked}
use Rattle.write_buffer.specs.declared.asked.Asked.TheVariants.{Answered, Need}
use Rattle.write_buffer.specs.Asking.{with_value}
use Rattle.txn_lang.specs.declared.limits.TheConstants.{TICK_LIMIT}
use Rattle.txn_lang.specs.declared.progress.Stop.TheVariants as stop
use Rattle.txn_lang.specs.declared.progress.Progress.{Progress}
use Rattle.txn_lang.specs.declared.run.Seen.{Seen}
use Rattle.txn_lang.specs.contracts.run.SeenPartialEq.TheImpl as seen_eq
use Rattle.txn_lang.specs.States.{PartialState}
use Rattle.txn_lang.specs.Observed.{Extends}
use Rattle.txn_lang.specs.Own.{with_seen}
use Rattle.txn_lang.specs.Steps.{Memory, Step, stopped, gives, Stepping, and_then, pure, stop_by, charge, answered, read_at}
use Rattle.txn_lang.specs.Items.{Names, is_big, decides, joined, text_in, elements_in, read_of}
use Rattle.txn_lang.specs.Rules.{Expression, sized, all_values, joined_with, link, chain, address_of, of_node, of_expr, of_operand, node_run}
use Rattle.txn_lang.specs.Rules.{expr_run}
use Rattle.txn_lang.proofs.Walk.{expr_of, operand_of, deep}
use Rattle.txn_eval.specs.declared.kept.Kept.{Kept}
use Rattle.txn_eval.specs.code.Buffering.{kept, answered_by}
use Rattle.txn_eval.specs.code.Pauses.{Stays}
use Rattle.txn_eval.proofs.Bound.{bound_same, bound_pushed, bound_through}

-- what is given by a step that gives nothing
abbrev unit : Unit {0}
unit = tt

-- where nothing is done all stays
pub stays_same : (p : Progress Kept) → Stays p p
stays_same p = record { emitted = refl; load = refl; buffer = refl; seen = bound_same p.memory.observations p.memory.observations refl }

-- one step after another
stays_through : (p q r : Progress Kept) → Stays p q → Stays q r → Stays p r
stays_through p q r first second = record {
  emitted = second.emitted ∙ first.emitted;
  load = second.load ∙ first.load;
  buffer = second.buffer ∙ first.buffer;
  seen = bound_through p.memory.observations q.memory.observations r.memory.observations first.seen second.seen;
}

-- Where the first step gives something the second gives the same. However it ends, the first leaves what was there.
abbrev pub Alike : {A : Type 0} → Progress Kept → Step Kept A → Step Kept A → Type 0
Alike p (gives x q) v = Stays p q × (v ≡ gives x q)
Alike p (stopped s q) v = Stays p q

-- and so do two steps from wherever they begin
abbrev pub Steady : {A : Type 0} → Stepping Kept A → Stepping Kept A → Type 0
Steady f g = (p : Progress Kept) → Alike p (f p) (g p)

-- two steps behind one that left what was there
pub alike_from : {A : Type 0} (p q : Progress Kept) (u v : Step Kept A) → Stays p q → Alike q u v → Alike p u v
alike_from p q (stopped s r) v first left = stays_through p q r first left
alike_from p q (gives x r) v first left = (stays_through p q r first left.0, left.1)

-- steps that are alike, and what goes alike behind them
pub alike_then : {A B : Type 0} (p : Progress Kept) (u v : Step Kept A) (h k : A → Stepping Kept B) → Alike p u v → ((x : A) → Steady (h x) (k x))
    → Alike p (and_then u h) (and_then v k)
alike_then p (stopped s q) v h k left steady = left
alike_then p (gives x q) v h k left steady =
    subst (λ w. Alike p (h x q) (and_then w k)) (sym left.1) (alike_from p q (h x q) (k x q) left.0 (steady x q))

-- nothing is done
pure_steady : {A : Type 0} (x : A) → Steady (pure x) (pure x)
pure_steady x p = (stays_same p, refl)

-- ticks are charged, by whether there are as many
abbrev charge_by : ℕ → Progress Kept → Bool → Step Kept (Unit {0})
charge_by n p b = cond b (gives unit (record p { ticks = p.ticks + n })) (stopped stop.Spent p)

pub charge_steady : (n : ℕ) → Steady (charge n) (charge n)
charge_steady n p = by (nat_le (p.ticks + n) TICK_LIMIT)
  where
    by : (b : Bool) → Alike p (charge_by n p b) (charge_by n p b)
    by true = (record { emitted = refl; load = refl; buffer = refl; seen = bound_same p.memory.observations p.memory.observations refl }, refl)
    by false = stays_same p

-- as many on both sides
charge_alike : (k l : ℕ) → k ≡ l → Steady (charge k) (charge l)
charge_alike k l e = subst (λ j. Steady (charge k) (charge j)) e (charge_steady k)

-- an item that is given or too large
abbrev sized_by : Item → Progress Kept → Bool → Step Kept Item
sized_by i p b = cond {A = Stepping Kept Item} b (stop_by stop.Big) (pure i) p

sized_steady : (i : Item) → Steady (sized i) (sized i)
sized_steady i p = by (is_big i)
  where
    by : (b : Bool) → Alike p (sized_by i p b) (sized_by i p b)
    by true = stays_same p
    by false = (stays_same p, refl)

-- what is listed stays in front
seen_first : (xs : List Seen) (z : Seen) → take (length xs) (with_seen xs z) ≡ xs
seen_first xs z = by (list_any (λ t. seen_eq.ghosts.eq t z) xs)
  where
    by : (b : Bool) → take (length xs) (cond b xs (xs ++ z ∷ [])) ≡ xs
    by true = bound_same xs xs refl
    by false = bound_pushed xs (xs ++ z ∷ []) z refl

-- a read may observe something
answered_alike : (a : Address) (p : Progress Kept) (said : Asked) → Alike p (answered a (answered_by a p.memory said) p) (answered a (answered_by a p.memory said) p)
answered_alike a p (Answered i None) = (stays_same p, refl)
answered_alike a p (Answered i (Some o)) =
    (record { emitted = refl; load = refl; buffer = refl; seen = seen_first p.memory.observations (record { address = a; obs = o }) }, refl)
answered_alike a p Need = stays_same p

-- what two expressions do is alike, whatever names are bound
abbrev pub AreSteady : Expression Kept → Expression Kept → Type 0
AreSteady f g = (names : Names) → Steady (f names) (g names)

module _ (s t : PartialState) (more : Extends s t) where
  -- the code's memory on the values of either state
  abbrev m : Memory Kept
  m = kept s

  abbrev n : Memory Kept
  n = kept t

  module _ (r : ReadOp) (a : Address) (p : Progress Kept) (own : Option Delta) where
    -- what is answered, by whether the deltas decide and by the value that may be there
    abbrev told : Bool → Option Value → Asked
    told b v = cond b (Answered (answer r (left_by own (default_of a.kind))) None) (with_value r own v)

    -- deltas that decide ask no state, and a value that is there is there in both
    read_alike : (b : Bool) (v : Option Value) → s a ≡ v
        → Alike p (answered a (answered_by a p.memory (told b v)) p) (answered a (answered_by a p.memory (told b (t a))) p)
    read_alike true v is = (stays_same p, refl)
    read_alike false None is = stays_same p
    read_alike false (Some v) is =
        subst (λ w. Alike p (answered a (answered_by a p.memory (told false (Some v))) p) (answered a (answered_by a p.memory (told false w)) p))
        (sym (more a v is)) (answered_alike a p (told false (Some v)))

  -- so a read does the same over both
  read_steady : (r : ReadOp) (a : Address) → Steady (read_at m r a) (read_at n r a)
  read_steady r a p = read_alike r a p (delta_at p.memory.buffer a) (is_decided_by r (delta_at p.memory.buffer a)) (s a) refl

  -- an operand has its operator, and is what its value is
  abbrev AreOperands : Operand → Type 0
  AreOperands o = ((operand_of m o).0 ≡ (operand_of n o).0) × AreSteady (operand_of m o).1 (operand_of n o).1

  -- one layer: each child is some expression, by h, and does the same over both
  module _ {N E O : Type 0} (hN : N → ExprNode) (hE : E → Expr) (hO : O → Operand) (nodes : (x : N) → AreSteady (node_run m (hN x)) (node_run n (hN x)))
      (exprs : (e : E) → AreSteady (expr_of m (hE e)) (expr_of n (hE e))) (operands : (o : O) → AreOperands (hO o)) where
    -- expression by expression
    values_steady : (is : List Item) (es : List E) (names : Names)
        → Steady (all_values is (map (expr_of m) (map hE es)) names) (all_values is (map (expr_of n) (map hE es)) names)
    values_steady is [] names p = (stays_same p, refl)
    values_steady is (e ∷ es) names p = alike_then p _ _ _ _ (exprs e names p) (λ i. values_steady (is ++ i ∷ []) es names)

    -- the item so far decides, or the operand is done
    link_steady : (i : Item) (o : O) (names : Names)
        → Steady (link (operand_of m (hO o)).0 i (operand_of m (hO o)).1 names) (link (operand_of n (hO o)).0 i (operand_of n (hO o)).1 names)
    link_steady i o names =
        subst (λ q. Steady (link (operand_of m (hO o)).0 i (operand_of m (hO o)).1 names) (link q i (operand_of n (hO o)).1 names)) (operands o).0
        (λ p. by (operand_of m (hO o)).0 p (decides (operand_of m (hO o)).0 i))
      where
        by : (op : Operator) (p : Progress Kept) (b : Bool)
            → Alike p (cond {A = Stepping Kept Item} b (pure i) (joined_with op i (operand_of m (hO o)).1 names) p)
            (cond {A = Stepping Kept Item} b (pure i) (joined_with op i (operand_of n (hO o)).1 names) p)
        by op p true = (stays_same p, refl)
        by op p false = alike_then p _ _ _ _ ((operands o).1 names p) (λ j. sized_steady (joined op i j))

    -- operand by operand
    chain_steady : (i : Item) (os : List O) (names : Names)
        → Steady (chain i (map (operand_of m) (map hO os)) names) (chain i (map (operand_of n) (map hO os)) names)
    chain_steady i [] names p = (stays_same p, refl)
    chain_steady i (o ∷ os) names p = alike_then p _ _ _ _ (link_steady i o names p) (λ j. chain_steady j os names)

    -- there are as many operands on both sides
    length_alike : (os : List O) → length (map (operand_of m) (map hO os)) ≡ length (map (operand_of n) (map hO os))
    length_alike [] = refl
    length_alike (o ∷ os) = ap (λ k. suc k) (length_alike os)

    -- form by form: a tick, the expressions in it one after another, and what it makes of them
    layer_steady : (y : ExprNode-F N E O)
        → AreSteady (of_node m (deep m (map-ExprNode N E O ExprNode Expr Operand hN hE hO y)))
        (of_node n (deep n (map-ExprNode N E O ExprNode Expr Operand hN hE hO y)))
    layer_steady (ExprNode-F.Number k) names p = alike_then p _ _ _ _ (charge_steady 1 p) (λ _. pure_steady _)
    layer_steady (ExprNode-F.Text t) names p = alike_then p _ _ _ _ (charge_steady 1 p) (λ _. sized_steady (item.Text t))
    layer_steady (ExprNode-F.Bool b) names p = alike_then p _ _ _ _ (charge_steady 1 p) (λ _. pure_steady _)
    layer_steady (ExprNode-F.Name x) names p = alike_then p _ _ _ _ (charge_steady 1 p) (λ _. pure_steady _)
    layer_steady (ExprNode-F.Texts es) names p = alike_then p _ _ _ _ (charge_steady 1 p)
        (λ _ q. alike_then q _ _ _ _ (values_steady [] es names q) (λ is. sized_steady (item.Texts (map text_in is))))
    layer_steady (ExprNode-F.Len e) names p = alike_then p _ _ _ _ (charge_steady 1 p) (λ _ q. alike_then q _ _ _ _ (exprs e names q) (λ _. pure_steady _))
    layer_steady (ExprNode-F.Str e) names p = alike_then p _ _ _ _ (charge_steady 1 p) (λ _ q. alike_then q _ _ _ _ (exprs e names q) (λ _. pure_steady _))
    layer_steady (ExprNode-F.Negative e) names p =
        alike_then p _ _ _ _ (charge_steady 1 p) (λ _ q. alike_then q _ _ _ _ (exprs e names q) (λ _. pure_steady _))
    layer_steady (ExprNode-F.Not e) names p = alike_then p _ _ _ _ (charge_steady 1 p) (λ _ q. alike_then q _ _ _ _ (exprs e names q) (λ _. pure_steady _))
    layer_steady (ExprNode-F.Compare e r f) names p = alike_then p _ _ _ _ (charge_steady 1 p)
        (λ _ q. alike_then q _ _ _ _ (exprs e names q) (λ i o. alike_then o _ _ _ _ (exprs f names o) (λ _. pure_steady _)))
    layer_steady (ExprNode-F.Chain e os) names p = alike_then p _ _ _ _ (charge_alike _ _ (length_alike os) p)
        (λ _ q. alike_then q _ _ _ _ (exprs e names q) (λ i. chain_steady i os names))
    layer_steady (ExprNode-F.Read k e word es) names p =
        alike_then p _ _ _ _ (charge_steady 1 p) (λ _ q. alike_then q _ _ _ _ (exprs e names q)
        (λ key o. alike_then o _ _ _ _ (values_steady [] es names o)
        (λ is r. alike_then r _ _ _ _ (read_steady (read_of k word is) (address_of k key) r)
        (λ i w. alike_then w _ _ _ _ (charge_steady (elements_in i) w) (λ _. sized_steady i)))))

    -- a node does what its layer does: the equation of the fold
    node_steady : (x : ExprNode-F ExprNode Expr Operand) (y : ExprNode-F N E O) → map-ExprNode N E O ExprNode Expr Operand hN hE hO y ≡ x
        → AreSteady (node_run m (roll-ExprNode x)) (node_run n (roll-ExprNode x))
    node_steady x y is =
        let z = map-ExprNode N E O ExprNode Expr Operand hN hE hO y in
        subst (λ w. AreSteady (node_run m (roll-ExprNode w)) (node_run n (roll-ExprNode w))) is
        (subst (λ f. AreSteady f (node_run n (roll-ExprNode z)))
        (sym (fold-roll-ExprNode (Expression Kept) (Expression Kept) (Operator × Expression Kept) (of_node m) of_expr of_operand z))
        (subst (λ g. AreSteady (of_node m (deep m z)) g)
        (sym (fold-roll-ExprNode (Expression Kept) (Expression Kept) (Operator × Expression Kept) (of_node n) of_expr of_operand z)) (layer_steady y)))

    -- an expression does what its node does
    expr_layer : (x : Expr-F ExprNode Expr Operand) (y : Expr-F N E O) → map-Expr N E O ExprNode Expr Operand hN hE hO y ≡ x
        → AreSteady (expr_of m (roll-Expr x)) (expr_of n (roll-Expr x))
    expr_layer x y is =
        let z = map-Expr N E O ExprNode Expr Operand hN hE hO y in
        subst (λ w. AreSteady (expr_of m (roll-Expr w)) (expr_of n (roll-Expr w))) is
        (subst (λ f. AreSteady f (expr_of n (roll-Expr z)))
        (sym (fold-roll-Expr (Expression Kept) (Expression Kept) (Operator × Expression Kept) (of_node m) of_expr of_operand z))
        (subst (λ g. AreSteady (node_run m (hN y.node)) g)
        (sym (fold-roll-Expr (Expression Kept) (Expression Kept) (Operator × Expression Kept) (of_node n) of_expr of_operand z)) (nodes y.node)))

    -- an operand does what its value does
    operand_layer : (x : Operand-F ExprNode Expr Operand) (y : Operand-F N E O) → map-Operand N E O ExprNode Expr Operand hN hE hO y ≡ x
        → AreOperands (roll-Operand x)
    operand_layer x y is =
        let z = map-Operand N E O ExprNode Expr Operand hN hE hO y in
        subst (λ w. AreOperands (roll-Operand w)) is
        (subst (λ (f : Operator × Expression Kept). (f.0 ≡ (operand_of n (roll-Operand z)).0) × AreSteady f.1 (operand_of n (roll-Operand z)).1)
        (sym (fold-roll-Operand (Expression Kept) (Expression Kept) (Operator × Expression Kept) (of_node m) of_expr of_operand z))
        (subst (λ (g : Operator × Expression Kept). (y.operator ≡ g.0) × AreSteady (expr_of m (hE y.value)) g.1)
        (sym (fold-roll-Operand (Expression Kept) (Expression Kept) (Operator × Expression Kept) (of_node n) of_expr of_operand z))
        (refl, exprs y.value)))

  -- by induction over expressions: a layer does the same over both where what stands in it does
  pub expr_steady : (e : Expr) → AreSteady (expr_run m e) (expr_run n e)
  expr_steady = ind-Expr (λ x. AreSteady (node_run m x) (node_run n x)) (λ e. AreSteady (expr_of m e) (expr_of n e)) AreOperands
      (λ x y is. node_steady (λ e. e.0) (λ e. e.0) (λ e. e.0) (λ e. e.1) (λ e. e.1) (λ e. e.1) x y is)
      (λ x y is. expr_layer (λ e. e.0) (λ e. e.0) (λ e. e.0) (λ e. e.1) (λ e. e.1) (λ e. e.1) x y is)
      (λ x y is. operand_layer (λ e. e.0) (λ e. e.0) (λ e. e.0) (λ e. e.1) (λ e. e.1) (λ e. e.1) x y is)

  -- expressions do the same one after another
  pub values_left : (is : List Item) (es : List Expr) (names : Names) → Steady (all_values is (map (expr_run m) es) names) (all_values is (map (expr_run n) es) names)
  values_left is [] names p = (stays_same p, refl)
  values_left is (e ∷ es) names p = alike_then p _ _ _ _ (expr_steady e names p) (λ i. values_left (is ++ i ∷ []) es names)
