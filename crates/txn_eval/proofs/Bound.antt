-- What was bound before stays bound: names begin with those before. So blocks and loops leave names as they were.
use Rattle.std.proofs.Common.{◌≡◌, ◌≤◌, Bool, true, false, List, [], ◌∷◌, ◌++◌, map, take, length, Some, None, refl, sym, ap, ◌∙◌, subst, cond, arith}
use Rattle.std.specs.List.{AllByRecursion}
use Rattle.std.proofs.Math.Seq.{take-append_seam}
use Rattle.std.proofs.lemmas.List.{length-take, take-take, take_all}
use Rattle.plain_data.specs.Texts.{Bytes}
use Rattle.rdt_types.specs.declared.outcome.Item.TheVariants as item
use Rattle.txn_trees.specs.declared.statement.Stmt.{Stmt, map-Stmt, roll-Stmt}
use Rattle.txn_trees.specs.declared.statement.StmtNode.{StmtNode, map-StmtNode, roll-StmtNode}
use Rattle.txn_trees.specs.declared.statement.StmtNode.TheOpen.{StmtNode-F, Stmt-F}
use Rattle.txn_trees.specs.declared.statement.StmtNode.TheFolds.{fold-roll-StmtNode, fold-roll-Stmt, ind-Stmt}
use Rattle.txn_lang.specs.declared.progress.Progress.{Progress}
use Rattle.txn_lang.specs.declared.progress.Stop.TheVariants as stop
use Rattle.txn_lang.specs.Steps.{Memory, Step, stopped, gives, Stepping, and_then, pure, stop_by, charge}
use Rattle.txn_lang.specs.Items.{Names, bool_in, text_in, texts_in}
use Rattle.txn_lang.specs.Rules.{Statement, all_values, emit_item, writes_with, all_steps, block, turn, turns, of_step, of_stmt, expr_run, step_run, stmt_run}

-- what is given by a step that gives nothing
abbrev unit : Unit {0}
unit = tt

module _ {A : Type 0} where
  -- nothing more is bound
  pub bound_same : (xs ys : List A) → ys ≡ xs → take (length xs) ys ≡ xs
  bound_same xs ys same = ap (take (length xs)) same ∙ take_all (length xs) xs (omega arith)

  -- one more name is bound
  pub bound_pushed : (xs ys : List A) (x : A) → ys ≡ xs ++ x ∷ [] → take (length xs) ys ≡ xs
  bound_pushed xs ys x pushed = ap (take (length xs)) pushed ∙ take-append_seam xs (x ∷ [])

  -- one step after another
  pub bound_through : (xs ys zs : List A) → take (length xs) ys ≡ xs → take (length ys) zs ≡ ys → take (length xs) zs ≡ xs
  bound_through xs ys zs first second =
      let short : length xs ≤ length ys = omega (arith, ap length first, length-take (length xs) ys) in
      sym (take-take (length xs) (length ys) zs short) ∙ ap (take (length xs)) second ∙ first

module _ {M : Type 0} where
  -- what a step gives begins with the names before
  abbrev pub Begins : Names → Step M Names → Type 0
  Begins names (gives after p) = take (length names) after ≡ names
  Begins names (stopped s p) = Unit {0}

  -- what a step gives are the names before
  abbrev pub Same : Names → Step M Names → Type 0
  Same names (gives after p) = after ≡ names
  Same names (stopped s p) = Unit {0}

  -- a statement leaves names that begin with those before
  abbrev pub IsBound : Statement M → Type 0
  IsBound f = (names : Names) (p : Progress M) → Begins names (f names p)

  -- the same names begin with themselves
  begins : (names : Names) (u : Step M Names) → Same names u → Begins names u
  begins names (stopped s p) same = tt
  begins names (gives after p) same = bound_same names after same

  -- behind any step
  behind : {A : Type 0} (names : Names) (u : Step M A) (h : A → Stepping M Names) → ((x : A) (q : Progress M) → Begins names (h x q))
      → Begins names (and_then u h)
  behind names (stopped s q) h rest = tt
  behind names (gives x q) h rest = rest x q

  -- behind one that gives names, from those on
  behind_names : (names : Names) (u : Step M Names) (h : Names → Stepping M Names) → Begins names u
      → ((after : Names) (q : Progress M) → Begins after (h after q)) → Begins names (and_then u h)
  behind_names names (stopped s q) h first rest = tt
  behind_names names (gives after q) h first rest = through (h after q) (rest after q)
    where
      through : (u : Step M Names) → Begins after u → Begins names u
      through (stopped s r) second = tt
      through (gives more r) second = bound_through names after more first second

  -- a block forgets what it bound
  forgets : (outside names : Names) (u : Step M Names) → take (length outside) names ≡ outside → Begins names u
      → Same outside (and_then u (λ after p. gives (take (length outside) after) p))
  forgets outside names (stopped s q) more is = tt
  forgets outside names (gives after q) more is = bound_through outside names after more is

  -- statement by statement
  all_bound : (fs : List (Statement M)) → AllByRecursion IsBound fs → IsBound (all_steps fs)
  all_bound [] all names p = bound_same names names refl
  all_bound (f ∷ fs) all names p = behind_names names (f names p) (λ after. all_steps fs after) (all.0 names p) (λ after q. all_bound fs all.1 after q)

  block_same : (fs : List (Statement M)) → AllByRecursion IsBound fs → (names : Names) (p : Progress M) → Same names (block fs names p)
  block_same fs all names p = forgets names names (all_steps fs names p) (bound_same names names refl) (all_bound fs all names p)

  -- a turn binds its text, and forgets that too
  pub turn_same : (x : Bytes) (fs : List (Statement M)) → AllByRecursion IsBound fs → (t : Bytes) (names : Names) (p : Progress M)
      → Same names (turn x fs t names p)
  turn_same x fs all t names p = by (charge 1 p)
    where
      more : Names
      more = names ++ (x, item.Text t) ∷ []

      by : (u : Step M (Unit {0})) → Same names (and_then u (λ _ q. and_then (all_steps fs more q) (λ after r. gives (take (length names) after) r)))
      by (stopped s q) = tt
      by (gives y q) = forgets names more (all_steps fs more q) (bound_pushed names more (x, item.Text t) refl) (all_bound fs all more q)

  turns_bound : (x : Bytes) (fs : List (Statement M)) → AllByRecursion IsBound fs → (ts : List Bytes) → IsBound (turns x fs ts)
  turns_bound x fs all [] names p = bound_same names names refl
  turns_bound x fs all (t ∷ ts) names p =
      behind_names names (turn x fs t names p) (λ after. turns x fs ts after) (begins names (turn x fs t names p) (turn_same x fs all t names p))
      (λ after q. turns_bound x fs all ts after q)

module _ {M : Type 0} (m : Memory M) where
  -- a statement's node, with what the statements in it do
  abbrev deep_step : StmtNode-F StmtNode Stmt → StmtNode-F (Statement M) (Statement M)
  deep_step = map-StmtNode StmtNode Stmt (Statement M) (Statement M) (step_run m) (stmt_run m)

  -- one layer: each child is some statement, by h, and leaves what was bound
  module _ {N X : Type 0} (hN : N → StmtNode) (hS : X → Stmt) (nodes : (x : N) → IsBound (step_run m (hN x)))
      (stmts : (s : X) → IsBound (stmt_run m (hS s))) where
    each : (ss : List X) → AllByRecursion IsBound (map (stmt_run m) (map hS ss))
    each [] = tt
    each (s ∷ ss) = (stmts s, each ss)

    -- form by form
    layer_bound : (y : StmtNode-F N X) → IsBound (of_step m (deep_step (map-StmtNode N X StmtNode Stmt hN hS y)))
    layer_bound (StmtNode-F.Let x e) names p =
        behind names (expr_run m e names p) (λ i. pure (names ++ (x, i) ∷ [])) (λ i q. bound_pushed names (names ++ (x, i) ∷ []) (x, i) refl)
    layer_bound (StmtNode-F.Emit e) names p =
        behind names (expr_run m e names p) (λ i q. and_then (emit_item i q) (λ _. pure names))
        (λ i q. behind names (emit_item i q) (λ _. pure names) (λ _ r. bound_same names names refl))
    layer_bound (StmtNode-F.Fail e) names p = behind names (expr_run m e names p) (λ i. stop_by (stop.Fail (text_in i))) (λ i q. unit)
    layer_bound (StmtNode-F.If e ss None) names p =
        behind names (expr_run m e names p)
        (λ i q. cond {A = Stepping M Names} (bool_in i) (block (map (stmt_run m) (map hS ss)) names) (pure names) q) (λ i q. by (bool_in i) q)
      where
        by : (b : Bool) (q : Progress M) → Begins names (cond {A = Stepping M Names} b (block (map (stmt_run m) (map hS ss)) names) (pure names) q)
        by true q = begins names (block (map (stmt_run m) (map hS ss)) names q) (block_same (map (stmt_run m) (map hS ss)) (each ss) names q)
        by false q = bound_same names names refl
    layer_bound (StmtNode-F.If e ss (Some ts)) names p =
        behind names (expr_run m e names p)
        (λ i q. cond {A = Stepping M Names} (bool_in i) (block (map (stmt_run m) (map hS ss)) names) (block (map (stmt_run m) (map hS ts)) names) q)
        (λ i q. by (bool_in i) q)
      where
        by : (b : Bool) (q : Progress M)
            → Begins names (cond {A = Stepping M Names} b (block (map (stmt_run m) (map hS ss)) names) (block (map (stmt_run m) (map hS ts)) names) q)
        by true q = begins names (block (map (stmt_run m) (map hS ss)) names q) (block_same (map (stmt_run m) (map hS ss)) (each ss) names q)
        by false q = begins names (block (map (stmt_run m) (map hS ts)) names q) (block_same (map (stmt_run m) (map hS ts)) (each ts) names q)
    layer_bound (StmtNode-F.For x e ss) names p =
        behind names (expr_run m e names p) (λ i. turns x (map (stmt_run m) (map hS ss)) (texts_in i) names)
        (λ i q. turns_bound x (map (stmt_run m) (map hS ss)) (each ss) (texts_in i) names q)
    layer_bound (StmtNode-F.Write k e word es) names p =
        behind names (expr_run m e names p)
        (λ key q. and_then (all_values [] (map (expr_run m) es) names q) (λ is r. and_then (writes_with m k key word is r) (λ _. pure names)))
        (λ key q. behind names (all_values [] (map (expr_run m) es) names q) (λ is r. and_then (writes_with m k key word is r) (λ _. pure names))
        (λ is r. behind names (writes_with m k key word is r) (λ _. pure names) (λ _ t. bound_same names names refl)))

    -- a node leaves what its layer does: the equation of the fold
    node_bound : (x : StmtNode-F StmtNode Stmt) (y : StmtNode-F N X) → map-StmtNode N X StmtNode Stmt hN hS y ≡ x → IsBound (step_run m (roll-StmtNode x))
    node_bound x y is =
        let z = map-StmtNode N X StmtNode Stmt hN hS y in
        subst (λ w. IsBound (step_run m (roll-StmtNode w))) is
        (subst IsBound (sym (fold-roll-StmtNode (Statement M) (Statement M) (of_step m) of_stmt z)) (layer_bound y))

    -- a statement charges its tick and leaves what its node does
    stmt_layer : (x : Stmt-F StmtNode Stmt) (y : Stmt-F N X) → map-Stmt N X StmtNode Stmt hN hS y ≡ x → IsBound (stmt_run m (roll-Stmt x))
    stmt_layer x y is =
        let z = map-Stmt N X StmtNode Stmt hN hS y in
        subst (λ w. IsBound (stmt_run m (roll-Stmt w))) is
        (subst IsBound (sym (fold-roll-Stmt (Statement M) (Statement M) (of_step m) of_stmt z))
        (λ names p. behind names (charge 1 p) (λ _. step_run m (hN y.node) names) (λ _ q. nodes y.node names q)))

  -- by induction over statements
  pub stmt_bound : (s : Stmt) → IsBound (stmt_run m s)
  stmt_bound = ind-Stmt (λ x. IsBound (step_run m x)) (λ s. IsBound (stmt_run m s))
      (λ x y is. node_bound (λ e. e.0) (λ e. e.0) (λ e. e.1) (λ e. e.1) x y is)
      (λ x y is. stmt_layer (λ e. e.0) (λ e. e.0) (λ e. e.1) (λ e. e.1) x y is)

  pub stmts_bound : (ss : List Stmt) → AllByRecursion IsBound (map (stmt_run m) ss)
  stmts_bound [] = tt
  stmts_bound (s ∷ ss) = (stmt_bound s, stmts_bound ss)
