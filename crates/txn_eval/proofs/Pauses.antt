-- From pause to pause, and to the end.
use Rattle.std.proofs.Common.{◌≡◌, ◌≢◌, ◌+◌, ℕ, zero, suc, nat_le, arith, unwrap_or, Bool, true, false, List, [], ◌∷◌, ◌++◌, map, sum, take, drop, length, slice_get}
use Rattle.std.proofs.Common.{Option, Some, None, option_map, Result, Ok, Err, OnOk, refl, ap, sym, ◌∙◌, subst, cond}
use Rattle.plain_data.specs.Texts.{Bytes}
use Rattle.rdt_types.specs.declared.address.Kind.{Kind}
use Rattle.rdt_types.specs.declared.address.Address.{Address}
use Rattle.rdt_types.specs.declared.operation.WriteOp.{WriteOp}
use Rattle.rdt_types.specs.declared.outcome.Item.{Item}
use Rattle.txn_trees.specs.declared.word.WriteWord.{WriteWord}
use Rattle.txn_trees.specs.declared.word.Operator.{Operator}
use Rattle.txn_trees.specs.declared.expression.Expr.{Expr, out-Expr}
use Rattle.txn_trees.specs.declared.expression.ExprNode.{out-ExprNode}
use Rattle.txn_trees.specs.declared.expression.ExprNode.TheOpen.{ExprNode-F}
use Rattle.txn_trees.specs.declared.expression.ExprNode.TheFolds.{fold_out-Expr, fold_out-ExprNode}
use Rattle.txn_trees.specs.declared.statement.Stmt.{Stmt, out-Stmt}
use Rattle.txn_trees.specs.declared.statement.StmtNode.{StmtNode, out-StmtNode, map-StmtNode}
use Rattle.txn_trees.specs.declared.statement.StmtNode.TheOpen.{StmtNode-F}
use Rattle.txn_trees.specs.declared.statement.StmtNode.TheFolds.{fold_out-Stmt, fold_out-StmtNode}
use Rattle.txn_trees.specs.declared.statement.StmtNode.TheVariants as form
use Rattle.txn_trees.specs.declared.expression.ExprNode.TheVariants as node_form
use Rattle.rdt_types.specs.declared.outcome.Item.TheVariants as item
use Rattle.txn_lang.specs.declared.limits.TheConstants.{LOAD_LIMIT}
use Rattle.txn_lang.specs.declared.progress.Stop.{Stop}
use Rattle.txn_lang.specs.declared.progress.Stop.TheVariants as stop
use Rattle.txn_lang.specs.declared.progress.Progress.{Progress}
use Rattle.txn_lang.specs.declared.snaps.Snap.{Snap}
use Rattle.txn_lang.specs.States.{PartialState}
use Rattle.txn_lang.specs.Observed.{Extends}
use Rattle.txn_lang.specs.Steps.{Memory, Step, stopped, gives, Stepping, and_then, pure, charge, emit}
use Rattle.txn_lang.specs.Items.{Names, named, text_in, texts_in, bool_in, size_of, text_size, write_of}
use Rattle.txn_lang.specs.Rules.{Statement, address_of, all_steps, block, block_maybe, turn, turns, emit_item, write_maybe, writes_with}
use Rattle.txn_lang.specs.Rules.{Expression, of_node, of_expr, of_operand, of_step, of_stmt, step_run, stmt_run, expr_run}
use Rattle.txn_lang.proofs.Walk.{deep}
use Rattle.txn_eval.specs.declared.kept.Kept.{Kept}
use Rattle.txn_eval.specs.declared.pause.Pause.{Pause}
use Rattle.txn_eval.specs.declared.pause.Turns.{Turns}
use Rattle.txn_eval.specs.declared.pause.Around.{Around}
use Rattle.txn_eval.specs.declared.pause.Around.TheVariants as around
use Rattle.txn_eval.specs.declared.pause.Frame.{Frame}
use Rattle.txn_eval.specs.declared.pause.Over.{Over}
use Rattle.txn_lang.specs.Execution.{Ran, need, begun}
use Rattle.txn_eval.specs.Running.{values_of}
use Rattle.txn_eval.specs.Pausing.{IsPauseOf, first_rest, stmt_rest, texts_over}
use Rattle.txn_eval.specs.code.Answers.{EndsAs}
use Rattle.txn_eval.specs.code.Buffering.{kept, nothing_kept, kept_ended}
use Rattle.txn_eval.specs.code.Forms.{charged}
use Rattle.txn_eval.specs.code.Pauses.{first_pause, node_holds_block, holds_block, Stays, Steps, Goes, GoesOn, GoesIn, Gives, GivesOver, Enters, OnGoing, inside, taken_back}
use Rattle.txn_eval.specs.code.Pauses.{stmts_left, stmt_left, block_left, node_left, left_behind}
use Rattle.txn_eval.proofs.Bound.{Same, turn_same, stmts_bound}
use Rattle.txn_eval.proofs.Steady.{Alike, alike_from, charge_steady, expr_steady, values_left}

-- a state has what it has
pub extends_itself : (s : PartialState) → Extends s s
extends_itself s a v is = is

-- ---- what is told of a step, of one that does the same, and of one that ends with it

module _ (s : PartialState) where
  -- two steps do the same on whatever more is known
  abbrev pub Same_on : Steps → Steps → Type 0
  Same_on f g = (t : PartialState) → Extends s t → f t ≡ g t

  -- what is told of a step is told of one that does the same
  pub goes_by : (r : Result (Unit {0}) Stop) (names : Names) (p : Progress Kept) (rest whole other : Steps) → Same_on other whole
      → Goes s r names p rest whole → Goes s r names p rest other
  goes_by (Ok x) names p rest whole other same is = λ t more. same t more ∙ is t more
  goes_by (Err (stop.Need a)) names p rest whole other same is =
      ((is.0.0, same s (extends_itself s) ∙ is.0.1), λ t more. same t more ∙ is.1 t more)
  goes_by (Err (stop.Fail e)) names p rest whole other same is = λ some. same s (extends_itself s) ∙ is some
  goes_by (Err stop.Spent) names p rest whole other same is = λ some. same s (extends_itself s) ∙ is some
  goes_by (Err stop.Big) names p rest whole other same is = λ some. same s (extends_itself s) ∙ is some
  goes_by (Err stop.NoMemory) names p rest whole other same is = λ some. absurd (some refl)

  -- and so it is where what is left does the same
  pub goes_left : (r : Result (Unit {0}) Stop) (names : Names) (p : Progress Kept) (rest other whole : Steps) → Same_on rest other
      → Goes s r names p rest whole → Goes s r names p other whole
  goes_left (Ok x) names p rest other whole same is = is
  goes_left (Err (stop.Need a)) names p rest other whole same is = (is.0, λ t more. is.1 t more ∙ same t more)
  goes_left (Err (stop.Fail e)) names p rest other whole same is = is
  goes_left (Err stop.Spent) names p rest other whole same is = is
  goes_left (Err stop.Big) names p rest other whole same is = is
  goes_left (Err stop.NoMemory) names p rest other whole same is = is

  pub in_by : (r : Result (Unit {0}) Stop) (left : Around → ℕ → PartialState → Pause → Step Kept Names) (whole other : Steps) (new : Pause)
      → Same_on other whole → GoesIn s r left whole new → GoesIn s r left other new
  in_by (Ok x) left whole other new same is = λ t more. same t more ∙ is t more
  in_by (Err (stop.Need a)) left whole other new same is = (
    (is.0.0, same s (extends_itself s) ∙ is.0.1),
    (is.1.0, is.1.1, is.1.2, is.1.3, λ t more. same t more ∙ is.1.4 t more),
  )
  in_by (Err (stop.Fail e)) left whole other new same is = λ some. same s (extends_itself s) ∙ is some
  in_by (Err stop.Spent) left whole other new same is = λ some. same s (extends_itself s) ∙ is some
  in_by (Err stop.Big) left whole other new same is = λ some. same s (extends_itself s) ∙ is some
  in_by (Err stop.NoMemory) left whole other new same is = λ some. absurd (some refl)

  -- where a step stops, so does one that begins with it, and what is left begins with what is left of it
  pub stop_then : (e : Stop) (names more : Names) (p : Progress Kept) (rest whole : Steps) (h : PartialState → Names → Stepping Kept Names)
      → Goes s (Err e) names p rest whole → Goes s (Err e) more p (λ t. and_then (rest t) (h t)) (λ t. and_then (whole t) (h t))
  stop_then (stop.Need a) names more p rest whole h is =
      ((is.0.0, ap (λ u. and_then u (h s)) is.0.1), λ t more. ap (λ u. and_then u (h t)) (is.1 t more))
  stop_then (stop.Fail e) names more p rest whole h is = λ some. ap (λ u. and_then u (h s)) (is some)
  stop_then stop.Spent names more p rest whole h is = λ some. ap (λ u. and_then u (h s)) (is some)
  stop_then stop.Big names more p rest whole h is = λ some. ap (λ u. and_then u (h s)) (is some)
  stop_then stop.NoMemory names more p rest whole h is = λ some. absurd (some refl)

  -- where an expression stops in front, nothing is done behind it, and all is as it was
  pub gives_stop : (e : Stop) (new old : Progress Kept) (whole : PartialState → Step Kept Item) (names : Names) (h : PartialState → Item → Stepping Kept Names)
      → (rest : Progress Kept → Steps) → (Same_on (λ t. and_then (whole t) (h t)) (rest old)) → Gives s (Err e) new old whole
      → Goes s (Err e) names new (rest new) (λ t. and_then (whole t) (h t))
  gives_stop (stop.Need a) new old whole names h rest same is =
      ((is.0.0, ap (λ u. and_then u (h s)) is.0.1), λ t more. same t more ∙ ap (λ p. rest p t) (sym is.1))
  gives_stop (stop.Fail e) new old whole names h rest same is = λ some. ap (λ u. and_then u (h s)) (is some)
  gives_stop stop.Spent new old whole names h rest same is = λ some. ap (λ u. and_then u (h s)) (is some)
  gives_stop stop.Big new old whole names h rest same is = λ some. ap (λ u. and_then u (h s)) (is some)
  gives_stop stop.NoMemory new old whole names h rest same is = λ some. absurd (some refl)

  -- where a value is needed in a block, the run pauses inside of what is around it
  pub entered : (e : Stop) (a : Address) (x : Around) (outside here : ℕ) (old new : Pause) (left : Around → ℕ → PartialState → Pause → Step Kept Names)
      (whole : Steps) → Enters e a new (inside x outside here old)
      → Goes s (Err (stop.Need a)) old.names old.run (λ t. left x outside t old) whole → GoesIn s (Err e) left whole new
  entered (stop.Need b) a x outside here old new left whole enters is = (
    (is.0.0, is.0.1 ∙ ap (λ c. stopped (stop.Need c) is.0.0) (sym enters.0)),
    (x, outside, old, enters.1 ∙ ap (λ n. inside x outside n old) (sym (ap (λ k. k.at) enters.1)), is.1),
  )
  entered (stop.Fail e) a x outside here old new left whole enters is = absurd enters
  entered stop.Spent a x outside here old new left whole enters is = absurd enters
  entered stop.Big a x outside here old new left whole enters is = absurd enters
  entered stop.NoMemory a x outside here old new left whole enters is = λ some. absurd (some refl)

  -- what is told of a form is told of its statement, which alone has that form
  pub in_statement : (r : Result (Unit {0}) Stop) (stmt : Stmt) (node : StmtNode-F StmtNode Stmt) (whole : Steps) (new : Pause)
      → out-StmtNode (out-Stmt stmt).node ≡ node → GoesIn s r (node_left node) whole new
      → Goes s r new.names new.run (λ t. stmt_left stmt t new) whole
  unfolding stmt_rest
  in_statement (Ok x) stmt node whole new form is = is
  in_statement (Err (stop.Need a)) stmt node whole new form is =
      (is.0, λ t more. is.1.4 t more ∙ ap (λ n. node_left n is.1.0 is.1.1 t is.1.2) (sym form) ∙ ap (λ k. stmt_left stmt t k) (sym is.1.3))
  in_statement (Err (stop.Fail e)) stmt node whole new form is = is
  in_statement (Err stop.Spent) stmt node whole new form is = is
  in_statement (Err stop.Big) stmt node whole new form is = is
  in_statement (Err stop.NoMemory) stmt node whole new form is = is

-- ---- what a step has done where it needs a value, and where it goes through

-- with the ticks as they were, and what was observed cut to what was before, a run is as it was
pub as_it_was : (p q r : Progress Kept) → Stays p q → r ≡ taken_back p.ticks (length p.memory.observations) q → r ≡ p
as_it_was p q r stays is =
    is
    ∙ (ap (λ seen. record { memory = record { buffer = q.memory.buffer; observations = seen }; emitted = q.emitted; ticks = p.ticks; load = q.load }) stays.seen
    ∙ (ap (λ deltas. record { memory = record { buffer = deltas; observations = p.memory.observations }; emitted = q.emitted; ticks = p.ticks; load = q.load })
    stays.buffer
    ∙ (ap (λ items. record { memory = p.memory; emitted = items; ticks = p.ticks; load = q.load }) stays.emitted
    ∙ ap (λ n. record { memory = p.memory; emitted = p.emitted; ticks = p.ticks; load = n }) stays.load)))

-- what a statement without blocks does on some values it does on more, unless it needs one: then it has only looked
abbrev pub Simply : {A : Type 0} → Progress Kept → Step Kept A → Step Kept A → Type 0
Simply p (gives x q) v = v ≡ gives x q
Simply p (stopped (stop.Need a) q) v = Stays p q
Simply p (stopped s q) v = Unit {0}

-- what gives or stops the same, and needs nothing
same_simply : {A : Type 0} (p : Progress Kept) (u : Step Kept A) → ((a : Address) (q : Progress Kept) → u ≢ stopped (stop.Need a) q) → Simply p u u
same_simply p (gives x q) none = refl
same_simply p (stopped (stop.Need a) q) none = absurd (none a q refl)
same_simply p (stopped (stop.Fail t) q) none = tt
same_simply p (stopped stop.Spent q) none = tt
same_simply p (stopped stop.Big q) none = tt
same_simply p (stopped stop.NoMemory q) none = tt

-- steps that are alike, and what is done behind them
simply_then : {A B : Type 0} (p : Progress Kept) (u v : Step Kept A) (h k : A → Stepping Kept B) → Alike p u v
    → ((x : A) (q : Progress Kept) → Stays p q → Simply p (h x q) (k x q)) → Simply p (and_then u h) (and_then v k)
simply_then p (stopped (stop.Need a) q) v h k left rest = left
simply_then p (stopped (stop.Fail t) q) v h k left rest = tt
simply_then p (stopped stop.Spent q) v h k left rest = tt
simply_then p (stopped stop.Big q) v h k left rest = tt
simply_then p (stopped stop.NoMemory q) v h k left rest = tt
simply_then p (gives x q) v h k left rest = subst (λ w. Simply p (h x q) (and_then w k)) (sym left.1) (rest x q left.0)

-- what is given by a step that gives nothing
abbrev unit : Unit {0}
unit = tt

-- an emission, by whether its load is within the limit
abbrev emit_by : Progress Kept → Item → Names → Bool → Step Kept Names
emit_by q i names b =
    and_then (and_then (cond b (gives unit (record q { load = q.load + (8 + size_of i) })) (stopped stop.Big q)) (λ _. emit i)) (λ _. pure names)

-- asks nothing of the values
emitted_simply : (p q : Progress Kept) (i : Item) (names : Names)
    → Simply p (and_then (emit_item i q) (λ _. pure names)) (and_then (emit_item i q) (λ _. pure names))
emitted_simply p q i names = by (nat_le (q.load + (8 + size_of i)) LOAD_LIMIT)
  where
    by : (b : Bool) → Simply p (emit_by q i names b) (emit_by q i names b)
    by true = refl
    by false = tt

module _ (s t : PartialState) (more : Extends s t) where
  abbrev m : Memory Kept
  m = kept s

  abbrev n : Memory Kept
  n = kept t

  -- nor does a write
  maybe_simply : (p q : Progress Kept) (a : Address) (w : Option WriteOp) (names : Names)
      → Simply p (and_then (write_maybe m a w q) (λ _. pure names)) (and_then (write_maybe n a w q) (λ _. pure names))
  maybe_simply p q a None names = refl
  maybe_simply p q a (Some o) names = refl

  -- a write, by whether its load is within the limit
  abbrev write_by : Memory Kept → Progress Kept → Kind → Item → WriteWord → List Item → Names → ℕ → Bool → Step Kept Names
  write_by o q k key word is names l b = and_then (and_then (cond b (gives unit (record q { load = q.load + l })) (stopped stop.Big q))
      (λ _. write_maybe o (address_of k key) (write_of k word is))) (λ _. pure names)

  written_simply : (p q : Progress Kept) (k : Kind) (key : Item) (word : WriteWord) (is : List Item) (names : Names)
      → Simply p (and_then (writes_with m k key word is q) (λ _. pure names)) (and_then (writes_with n k key word is q) (λ _. pure names))
  written_simply p q k key word is names = by (8 + length (text_in key) + sum (map text_size is))
      (nat_le (q.load + (8 + length (text_in key) + sum (map text_size is))) LOAD_LIMIT)
    where
      by : (l : ℕ) (b : Bool) → Simply p (write_by m q k key word is names l b) (write_by n q k key word is names l b)
      by l true = maybe_simply p (record q { load = q.load + l }) (address_of k key) (write_of k word is) names
      by l false = tt

  -- a statement's node, with what the statements in it do
  abbrev deep_step : (o : Memory Kept) → StmtNode-F StmtNode Stmt → StmtNode-F (Statement Kept) (Statement Kept)
  deep_step o = map-StmtNode StmtNode Stmt (Statement Kept) (Statement Kept) (step_run o) (stmt_run o)

  -- form by form: only its expressions ask values
  node_simply : (y : StmtNode-F StmtNode Stmt) → node_holds_block y ≡ false → (names : Names) (p q : Progress Kept) → Stays p q
      → Simply p (of_step m (deep_step m y) names q) (of_step n (deep_step n y) names q)
  node_simply (StmtNode-F.Let x e) plain names p q stays =
      simply_then p _ _ _ _ (alike_from p q _ _ stays (expr_steady s t more e names q)) (λ i r left. refl)
  node_simply (StmtNode-F.Emit e) plain names p q stays =
      simply_then p _ _ _ _ (alike_from p q _ _ stays (expr_steady s t more e names q)) (λ i r left. emitted_simply p r i names)
  node_simply (StmtNode-F.Fail e) plain names p q stays =
      simply_then p _ _ _ _ (alike_from p q _ _ stays (expr_steady s t more e names q)) (λ i r left. tt)
  node_simply (StmtNode-F.If e ss ts) plain names p q stays = absurd (cc)
  node_simply (StmtNode-F.For x e ss) plain names p q stays = absurd (cc)
  node_simply (StmtNode-F.Write k e word es) plain names p q stays =
      simply_then p _ _ _ _ (alike_from p q _ _ stays (expr_steady s t more e names q))
      (λ key r left. simply_then p _ _ _ _ (alike_from p r _ _ left (values_left s t more [] es names r)) (λ is w all. written_simply p w k key word is names))

-- what a statement does: its tick, and its form
pub stmt_is : (o : Memory Kept) (stmt : Stmt) (node : StmtNode-F StmtNode Stmt) → out-StmtNode (out-Stmt stmt).node ≡ node → (names : Names) (p : Progress Kept)
    → stmt_run o stmt names p
    ≡ and_then (charge 1 p) (λ _. of_step o (map-StmtNode StmtNode Stmt (Statement Kept) (Statement Kept) (step_run o) (stmt_run o) node) names)
stmt_is o stmt node is names p =
    ap (λ f. f names p) (fold_out-Stmt (Statement Kept) (Statement Kept) (of_step o) of_stmt stmt)
    ∙ (ap (λ (f : Statement Kept). and_then (charge 1 p) (λ _. f names))
    (fold_out-StmtNode (Statement Kept) (Statement Kept) (of_step o) of_stmt (out-Stmt stmt).node)
    ∙ ap (λ y. and_then (charge 1 p) (λ _. of_step o (map-StmtNode StmtNode Stmt (Statement Kept) (Statement Kept) (step_run o) (stmt_run o) y) names)) is)

-- so a statement that holds no block only looks where it needs a value, and does the same on more
pub stmt_simply : (s t : PartialState) → Extends s t → (stmt : Stmt) → holds_block stmt ≡ false → (names : Names) (p : Progress Kept)
    → Simply p (stmt_run (kept s) stmt names p) (stmt_run (kept t) stmt names p)
stmt_simply s t more stmt plain names p =
    let node = out-StmtNode (out-Stmt stmt).node in
    subst (λ u. Simply p u (stmt_run (kept t) stmt names p)) (sym (stmt_is (kept s) stmt node refl names p))
    (subst (λ v. Simply p (and_then (charge 1 p) (λ _. of_step (kept s) (deep_step s t more (kept s) node) names)) v) (sym (stmt_is (kept t) stmt node refl names p))
    (simply_then p _ _ _ _ (charge_steady 1 p) (λ x q stays. node_simply s t more node plain names p q stays)))

-- an expression behind a tick
charged_alike : (s t : PartialState) → Extends s t → (e : Expr) (names : Names) (p : Progress Kept)
    → Simply p (charged (expr_run (kept s) e names) p) (charged (expr_run (kept t) e names) p)
charged_alike s t more e names p =
    simply_then p _ _ _ _ (charge_steady 1 p) (λ x q stays. by q stays (expr_run (kept s) e names q) (expr_run (kept t) e names q) (expr_steady s t more e names q))
  where
    by : (q : Progress Kept) → Stays p q → (u v : Step Kept Item) → Alike q u v → Simply p u v
    by q stays (gives x r) v alike = alike.1
    by q stays (stopped (stop.Need a) r) v alike = alike_from p q (stopped (stop.Need a) r) v stays alike
    by q stays (stopped (stop.Fail t) r) v alike = tt
    by q stays (stopped stop.Spent r) v alike = tt
    by q stays (stopped stop.Big r) v alike = tt
    by q stays (stopped stop.NoMemory r) v alike = tt

-- what the code answers is told of all states that have more
module _ (s : PartialState) {A : Type 0} (p : Progress Kept) (f : PartialState → Step Kept A) (simply : (t : PartialState) → Extends s t → Simply p (f s) (f t)) where
  -- what is given on the first is given on more
  pub gives_more : (x : A) (q : Progress Kept) → f s ≡ gives x q → (t : PartialState) → Extends s t → f t ≡ gives x q
  gives_more x q is t more = subst (λ u. Simply p u (f t)) is (simply t more)

  -- where a value is needed all else stays
  pub need_stays : (a : Address) (q : Progress Kept) → f s ≡ stopped (stop.Need a) q → Stays p q
  need_stays a q is = subst (λ u. Simply p u (f s)) is (simply s (extends_itself s))

-- where a step stops for an address, that is what it needs
pub needed : {A : Type 0} (e : Stop) (a : Address) (u : Step Kept A) (p : Progress Kept) → e ≡ stop.Need a → (e ≢ stop.NoMemory → u ≡ stopped e p)
    → u ≡ stopped (stop.Need a) p
needed e a u p is stops =
    stops (λ none. let clash : stop.Need a ≡ stop.NoMemory = sym is ∙ none in absurd (cc)) ∙ ap (λ (r : Stop). stopped r p) is

-- what a step does behind its tick
pub behind_tick : {A : Type 0} (step : Stepping Kept A) (p q : Progress Kept) (u : Step Kept A) → charge 1 p ≡ gives tt q → step q ≡ u → charged step p ≡ u
behind_tick step p q u tick does = ap (λ o. and_then o (λ _. step)) tick ∙ does

-- where the expression behind a tick needs a value, what it did is taken back
pub head_needs : (s : PartialState) (e : Expr) (names : Names) (a : Address) (p q r : Progress Kept)
    → charged (expr_run (kept s) e names) p ≡ stopped (stop.Need a) q → r ≡ taken_back p.ticks (length p.memory.observations) q
    → Gives s (Err (stop.Need a)) r p (λ t. charged (expr_run (kept t) e names) p)
head_needs s e names a p q r is taken =
    ((q, is), as_it_was p q r (need_stays s p (λ t. charged (expr_run (kept t) e names) p) (λ t more. charged_alike s t more e names p) a q is) taken)

-- and where it gives an item, it does so on more
pub head_gives : (s : PartialState) (e : Expr) (names : Names) (p q : Progress Kept) (i : Item) → charged (expr_run (kept s) e names) p ≡ gives i q
    → (t : PartialState) → Extends s t → charged (expr_run (kept t) e names) p ≡ gives i q
head_gives s e names p q i is = gives_more s p (λ t. charged (expr_run (kept t) e names) p) (λ t more. charged_alike s t more e names p) i q is

-- where a statement that holds no block needs a value, what it did is taken back
pub plain_needs : (s : PartialState) (stmt : Stmt) → holds_block stmt ≡ false → (names after : Names) (a : Address) (p q r : Progress Kept)
    → stmt_run (kept s) stmt names p ≡ stopped (stop.Need a) q → r ≡ taken_back p.ticks (length p.memory.observations) q → after ≡ names
    → Goes s (Err (stop.Need a)) after r (λ t. stmt_run (kept t) stmt after r) (λ t. stmt_run (kept t) stmt names p)
plain_needs s stmt plain names after a p q r is taken same =
    let back = as_it_was p q r (need_stays s p (λ t. stmt_run (kept t) stmt names p) (λ t more. stmt_simply s t more stmt plain names p) a q is) taken in
    ((q, is), λ t more. ap (λ o. stmt_run (kept t) stmt names o) (sym back) ∙ ap (λ xs. stmt_run (kept t) stmt xs r) (sym same))

-- and where it goes through, it does so on more
pub plain_gives : (s : PartialState) (stmt : Stmt) → holds_block stmt ≡ false → (names after : Names) (p q : Progress Kept)
    → stmt_run (kept s) stmt names p ≡ gives after q → (t : PartialState) → Extends s t → stmt_run (kept t) stmt names p ≡ gives after q
plain_gives s stmt plain names after p q is =
    gives_more s p (λ t. stmt_run (kept t) stmt names p) (λ t more. stmt_simply s t more stmt plain names p) after q is

-- ---- what is left, form by form

-- two steps, one after another, and one behind both
behind_both : {A B C : Type 0} (u : Step Kept A) (g : A → Stepping Kept B) (h : B → Stepping Kept C)
    → and_then u (λ x q. and_then (g x q) h) ≡ and_then (and_then u g) h
behind_both (stopped s q) g h = refl
behind_both (gives x q) g h = refl

-- what a name gives
pub name_is : (o : Memory Kept) (e : Expr) (x : Bytes) → out-ExprNode (out-Expr e).node ≡ ExprNode-F.Name x → (names : Names) (p : Progress Kept)
    → expr_run o e names p ≡ and_then (charge 1 p) (λ _. pure (named names x))
name_is o e x is names p =
    ap (λ f. f names p) (fold_out-Expr (Expression Kept) (Expression Kept) (Operator × Expression Kept) (of_node o) of_expr of_operand e)
    ∙ (ap (λ (f : Expression Kept). f names p)
    (fold_out-ExprNode (Expression Kept) (Expression Kept) (Operator × Expression Kept) (of_node o) of_expr of_operand (out-Expr e).node)
    ∙ ap (λ y. of_node o (deep o y) names p) is)

-- a loop over a name charges for its statement and for the name
pub named_over : (e : Expr) (x : Bytes) → out-ExprNode (out-Expr e).node ≡ ExprNode-F.Name x → (names : Names) (p q r : Progress Kept)
    → charge 1 p ≡ gives unit q → charge 1 q ≡ gives unit r → (t : PartialState) → charged (expr_run (kept t) e names) p ≡ gives (named names x) r
named_over e x is names p q r first second t =
    ap (λ u. and_then u (λ _. expr_run (kept t) e names)) first
    ∙ (name_is (kept t) e x is names q ∙ ap (λ u. and_then u (λ _. pure (named names x))) second)

-- where a run stands in no block, what is left of statements is what they do
rest_all : (o : Memory Kept) (ss : List Stmt) (names : Names) (p : Progress Kept) → first_rest o (stmt_rest o []) (drop 0 ss) names p
    ≡ all_steps (map (stmt_run o) ss) names p
unfolding stmt_rest
rest_all o [] names p = refl
rest_all o (s ∷ ss) names p = refl

first_all : (o : Memory Kept) (ss : List Stmt) (names : Names) (p : Progress Kept)
    → first_rest o (stmt_rest o []) ss names p ≡ all_steps (map (stmt_run o) ss) names p
unfolding stmt_rest
first_all o [] names p = refl
first_all o (s ∷ ss) names p = refl

-- and what is left of a statement is what it does
fresh_is : (t : PartialState) (stmt : Stmt) (pause : Pause) → pause.trail ≡ [] → stmt_left stmt t pause ≡ stmt_run (kept t) stmt pause.names pause.run
unfolding stmt_rest
fresh_is t stmt pause none = ap (λ fs. stmt_rest (kept t) fs stmt pause.names pause.run) none

-- what is left of a block whose first statement is next
block_is : (t : PartialState) (ss : List Stmt) (outside : ℕ) (pause : Pause) → pause.at ≡ 0 → pause.trail ≡ []
    → block_left ss outside t pause ≡ and_then (all_steps (map (stmt_run (kept t)) ss) pause.names pause.run) (λ after. pure (take outside after))
block_is t ss outside pause at none =
    ap (λ n. block_left ss outside t (record pause { at = n })) at
    ∙ (ap (λ fs. block_left ss outside t (record pause { at = 0; trail = fs })) none
    ∙ ap (λ u. and_then u (λ after. pure (take outside after))) (rest_all (kept t) ss pause.names pause.run))

-- what is left of a loop in one of whose turns a run stands
round_is : (t : PartialState) (x : Bytes) (e : Expr) (ss : List Stmt) (over : Over) (place outside : ℕ) (pause : Pause)
    → node_left (StmtNode-F.For x e ss) (around.Turn (record { over = over; next = place })) outside t pause
    ≡ and_then (block_left ss outside t pause) (λ after. turns x (map (stmt_run (kept t)) ss) (drop place (texts_over over after)) after)
round_is t x e ss over place outside pause =
    behind_both (stmts_left ss t pause) (λ after. pure (take outside after))
    (λ after. turns x (map (stmt_run (kept t)) ss) (drop place (texts_over over after)) after)

module _ (t : PartialState) (stmt : Stmt) (pause : Pause) (none : pause.trail ≡ []) where
  -- a statement of a form, from its start
  whole_is : (node : StmtNode-F StmtNode Stmt) → out-StmtNode (out-Stmt stmt).node ≡ node
      → stmt_left stmt t pause
      ≡ and_then (charge 1 pause.run)
      (λ _. of_step (kept t) (map-StmtNode StmtNode Stmt (Statement Kept) (Statement Kept) (step_run (kept t)) (stmt_run (kept t)) node) pause.names)
  whole_is node form = fresh_is t stmt pause none ∙ stmt_is (kept t) stmt node form pause.names pause.run

  -- an `if` does what its expression chooses
  pub if_is : (e : Expr) (ss : List Stmt) (ts : Option (List Stmt)) → out-StmtNode (out-Stmt stmt).node ≡ StmtNode-F.If e ss ts
      → stmt_left stmt t pause
      ≡ and_then (charged (expr_run (kept t) e pause.names) pause.run)
      (λ i p. cond {A = Stepping Kept Names} (bool_in i) (block (map (stmt_run (kept t)) ss) pause.names)
      (block_maybe (option_map (map (stmt_run (kept t))) ts) pause.names) p)
  if_is e ss None form =
      whole_is (StmtNode-F.If e ss None) form
      ∙ behind_both (charge 1 pause.run) (λ _. expr_run (kept t) e pause.names)
      (λ i p. cond {A = Stepping Kept Names} (bool_in i) (block (map (stmt_run (kept t)) ss) pause.names) (pure pause.names) p)
  if_is e ss (Some ts) form =
      whole_is (StmtNode-F.If e ss (Some ts)) form
      ∙ behind_both (charge 1 pause.run) (λ _. expr_run (kept t) e pause.names)
      (λ i p. cond {A = Stepping Kept Names} (bool_in i) (block (map (stmt_run (kept t)) ss) pause.names) (block (map (stmt_run (kept t)) ts) pause.names) p)

  -- a `for` takes its turns over what its expression gives
  pub for_is : (x : Bytes) (e : Expr) (ss : List Stmt) → out-StmtNode (out-Stmt stmt).node ≡ StmtNode-F.For x e ss
      → stmt_left stmt t pause
      ≡ and_then (charged (expr_run (kept t) e pause.names) pause.run) (λ i. turns x (map (stmt_run (kept t)) ss) (texts_in i) pause.names)
  for_is x e ss form =
      whole_is (StmtNode-F.For x e ss) form
      ∙ behind_both (charge 1 pause.run) (λ _. expr_run (kept t) e pause.names) (λ i. turns x (map (stmt_run (kept t)) ss) (texts_in i) pause.names)

-- ---- the ways out of the code's functions

-- a fact holds on Ok, and where a run goes on
pub on_ok : {P : Type 0} (r : Result (Unit {0}) Stop) → P → OnOk r P
on_ok (Ok x) is = is
on_ok (Err e) is = tt

pub on_going : {P : Type 0} (r : Result (Unit {0}) Stop) → P → OnGoing r P
on_going (Ok x) is = is
on_going (Err (stop.Need a)) is = is
on_going (Err (stop.Fail t)) is = tt
on_going (Err stop.Spent) is = tt
on_going (Err stop.Big) is = tt
on_going (Err stop.NoMemory) is = tt

module _ (s : PartialState) where
  -- a value is needed in a block
  pub block_needs : (e stop' : Stop) (a : Address) (x : Around) (ss : List Stmt) (outside here : ℕ) (k new : Pause)
      (left : Around → ℕ → PartialState → Pause → Step Kept Names) (rest whole : Steps) → stop' ≡ stop.Need a → Enters e a new (inside x outside here k)
      → Same_on s rest (λ t. left x outside t k) → Goes s (Err stop') k.names k.run rest whole → GoesIn s (Err e) left whole new
  block_needs e stop' a x ss outside here k new left rest whole is enters same goes =
      entered s e a x outside here k new left whole enters
      (goes_left s (Err (stop.Need a)) k.names k.run rest (λ t. left x outside t k) whole same
      (subst (λ (r : Stop). Goes s (Err r) k.names k.run rest whole) is goes))

  module _ (stmt : Stmt) (old : Pause) (none : old.trail ≡ []) where
    -- an `if` whose expression has given an item
    module _ (e : Expr) (ss : List Stmt) (ts : Option (List Stmt)) (form : out-StmtNode (out-Stmt stmt).node ≡ StmtNode-F.If e ss ts)
        (i : Item) (run : Progress Kept) (given : (t : PartialState) → Extends s t → charged (expr_run (kept t) e old.names) old.run ≡ gives i run) where
      -- what it does then
      chosen : (b : Bool) → bool_in i ≡ b → (t : PartialState) → Extends s t
          → stmt_left stmt t old ≡ cond {A = Stepping Kept Names} b (block (map (stmt_run (kept t)) ss) old.names)
          (block_maybe (option_map (map (stmt_run (kept t))) ts) old.names) run
      chosen b is t more =
          if_is t stmt old none e ss ts form
          ∙ (ap (λ u. and_then u (λ i p. cond {A = Stepping Kept Names} (bool_in i) (block (map (stmt_run (kept t)) ss) old.names)
          (block_maybe (option_map (map (stmt_run (kept t))) ts) old.names) p)) (given t more)
          ∙ ap (λ b. cond {A = Stepping Kept Names} b (block (map (stmt_run (kept t)) ss) old.names)
          (block_maybe (option_map (map (stmt_run (kept t))) ts) old.names) run) is)

      -- the branch that it takes
      module _ (slice : List Stmt) (outside : ℕ) (count : outside ≡ length old.names) (r : Result (Unit {0}) Stop) (new : Pause) where
        branched : (bs : List Stmt) (x : Around) → slice ≡ bs
            → ((t : PartialState) → Extends s t → stmt_left stmt t old ≡ block (map (stmt_run (kept t)) bs) old.names run)
            → GoesIn s r (node_left (StmtNode-F.If e ss ts)) (λ t. block_left slice outside t (record old { at = 0; run = run })) new
            → GoesOn s r (stmt_left stmt) old new
        branched bs x is whole goes =
            in_statement s r stmt (StmtNode-F.If e ss ts) (λ t. stmt_left stmt t old) new form
            (in_by s r (node_left (StmtNode-F.If e ss ts)) (λ t. block_left slice outside t (record old { at = 0; run = run })) (λ t. stmt_left stmt t old) new
            (λ t more.
            whole t more
            ∙ (ap (λ zs. block (map (stmt_run (kept t)) zs) old.names run) (sym is)
            ∙ (ap (λ n. and_then (all_steps (map (stmt_run (kept t)) slice) old.names run) (λ after. pure (take n after))) (sym count)
            ∙ sym (block_is t slice outside (record old { at = 0; run = run }) refl none))))
            goes)

        pub then_goes : bool_in i ≡ true → slice ≡ ss
            → ((node : StmtNode-F StmtNode Stmt) → ((t : PartialState) (k : Pause) → block_left slice outside t k ≡ node_left node around.Then outside t k)
            → GoesIn s r (node_left node) (λ t. block_left slice outside t (record old { at = 0; run = run })) new)
            → GoesOn s r (stmt_left stmt) old new
        then_goes holds is goes =
            branched ss around.Then is (chosen true holds)
            (goes (StmtNode-F.If e ss ts) (λ t k. ap (λ zs. block_left zs outside t k) is))

        pub else_goes : (us : List Stmt) → bool_in i ≡ false → ts ≡ Some us → slice ≡ us
            → ((node : StmtNode-F StmtNode Stmt) → ((t : PartialState) (k : Pause) → block_left slice outside t k ≡ node_left node around.Else outside t k)
            → GoesIn s r (node_left node) (λ t. block_left slice outside t (record old { at = 0; run = run })) new)
            → GoesOn s r (stmt_left stmt) old new
        else_goes us fails there is goes =
            branched us around.Else is
            (λ t more. chosen false fails t more ∙ ap (λ vs. block_maybe (option_map (map (stmt_run (kept t))) vs) old.names run) there)
            (goes (StmtNode-F.If e ss ts) (λ t k.
            ap (λ zs. block_left zs outside t k) is ∙ ap (λ vs. node_left (StmtNode-F.If e ss vs) around.Else outside t k) (sym there)))

      -- nothing is done where there is no `else`
      pub none_goes : bool_in i ≡ false → ts ≡ None → (t : PartialState) → Extends s t → stmt_left stmt t old ≡ gives old.names run
      none_goes fails there t more =
          chosen false fails t more ∙ ap (λ vs. block_maybe (option_map (map (stmt_run (kept t))) vs) old.names run) there
      -- where its expression stops in front

    pub if_stops : (e : Expr) (ss : List Stmt) (ts : Option (List Stmt)) → out-StmtNode (out-Stmt stmt).node ≡ StmtNode-F.If e ss ts
        → (stop' : Stop) (run : Progress Kept) → Gives s (Err stop') run old.run (λ t. charged (expr_run (kept t) e old.names) old.run)
        → GoesOn s (Err stop') (stmt_left stmt) old (record old { run = run })
    if_stops e ss ts form stop' run is =
        goes_by s (Err stop') old.names run (λ t. stmt_left stmt t (record old { run = run })) _ (λ t. stmt_left stmt t old)
        (λ t more. if_is t stmt old none e ss ts form)
        (gives_stop s stop' run old.run (λ t. charged (expr_run (kept t) e old.names) old.run) old.names _ (λ p t. stmt_left stmt t (record old { run = p }))
        (λ t more. sym (if_is t stmt old none e ss ts form)) is)

    pub for_stops : (x : Bytes) (e : Expr) (ss : List Stmt) → out-StmtNode (out-Stmt stmt).node ≡ StmtNode-F.For x e ss
        → (stop' : Stop) (run : Progress Kept) → GivesOver s (Err stop') old.names run old.run (λ t. charged (expr_run (kept t) e old.names) old.run)
        → GoesOn s (Err stop') (stmt_left stmt) old (record old { run = run })
    for_stops x e ss form stop' run is =
        goes_by s (Err stop') old.names run (λ t. stmt_left stmt t (record old { run = run })) _ (λ t. stmt_left stmt t old)
        (λ t more. for_is t stmt old none x e ss form)
        (gives_stop s stop' run old.run (λ t. charged (expr_run (kept t) e old.names) old.run) old.names _ (λ p t. stmt_left stmt t (record old { run = p }))
        (λ t more. sym (for_is t stmt old none x e ss form)) (over_stops stop' is))
      where
        over_stops : (stop' : Stop) → GivesOver s (Err stop') old.names run old.run (λ t. charged (expr_run (kept t) e old.names) old.run)
            → Gives s (Err stop') run old.run (λ t. charged (expr_run (kept t) e old.names) old.run)
        over_stops (stop.Need a) is = is
        over_stops (stop.Fail z) is = is
        over_stops stop.Spent is = is
        over_stops stop.Big is = is
        over_stops stop.NoMemory is = is

    -- a loop that takes its turns
    pub for_goes : (x : Bytes) (e : Expr) (ss slice : List Stmt) → out-StmtNode (out-Stmt stmt).node ≡ StmtNode-F.For x e ss → slice ≡ ss → (over : Over)
        (run : Progress Kept) (r : Result (Unit {0}) Stop) (new : Pause)
        → GivesOver s (Ok over) old.names run old.run (λ t. charged (expr_run (kept t) e old.names) old.run)
        → ((e : Expr) → GoesIn s r (node_left (StmtNode-F.For x e slice))
        (λ t. turns x (map (stmt_run (kept t)) slice) (drop 0 (texts_over over old.names)) old.names run) new)
        → GoesOn s r (stmt_left stmt) old new
    for_goes x e ss slice form is over run r new given goes =
        in_statement s r stmt (StmtNode-F.For x e slice) (λ t. stmt_left stmt t old) new (form ∙ ap (λ zs. StmtNode-F.For x e zs) (sym is))
        (in_by s r (node_left (StmtNode-F.For x e slice)) (λ t. turns x (map (stmt_run (kept t)) slice) (drop 0 (texts_over over old.names)) old.names run)
        (λ t. stmt_left stmt t old) new
        (λ t more.
        for_is t stmt old none x e ss form
        ∙ (ap (λ u. and_then u (λ i. turns x (map (stmt_run (kept t)) ss) (texts_in i) old.names)) (given.2 t more)
        ∙ (ap (λ zs. turns x (map (stmt_run (kept t)) zs) (texts_in given.0) old.names run) (sym is)
        ∙ ap (λ ts. turns x (map (stmt_run (kept t)) slice) ts old.names run) (given.1 ∙ dropped (texts_over over old.names)))))
        (goes e))
      where
        dropped : (ts : List Bytes) → ts ≡ drop 0 ts
        dropped [] = refl
        dropped (t ∷ ts) = refl

    -- a statement that holds no block
    pub plain_goes : (r : Result (Unit {0}) Stop) (names : Names) (run : Progress Kept)
        → Goes s r names run (λ t. stmt_run (kept t) stmt names run) (λ t. stmt_run (kept t) stmt old.names old.run)
        → GoesOn s r (stmt_left stmt) old (record old { names = names; run = run })
    plain_goes r names run goes =
        goes_left s r names run (λ t. stmt_run (kept t) stmt names run) (λ t. stmt_left stmt t (record old { names = names; run = run })) (λ t. stmt_left stmt t old)
        (λ t more. sym (fresh_is t stmt (record old { names = names; run = run }) none))
        (goes_by s r names run (λ t. stmt_run (kept t) stmt names run) (λ t. stmt_run (kept t) stmt old.names old.run) (λ t. stmt_left stmt t old)
        (λ t more. fresh_is t stmt old none) goes)

-- what a form is called
pub if_form : (stmt : Stmt) (e : Expr) (ss : List Stmt) (ts : Option (List Stmt)) → (out-Stmt stmt).node ≡ form.If e ss ts
    → out-StmtNode (out-Stmt stmt).node ≡ StmtNode-F.If e ss ts
if_form stmt e ss ts is = ap out-StmtNode is ∙ rw form.outs-If refl

pub for_form : (stmt : Stmt) (x : Bytes) (e : Expr) (ss : List Stmt) → (out-Stmt stmt).node ≡ form.For x e ss
    → out-StmtNode (out-Stmt stmt).node ≡ StmtNode-F.For x e ss
for_form stmt x e ss is = ap out-StmtNode is ∙ rw form.outs-For refl

pub name_form : (e : Expr) (x : Bytes) → (out-Expr e).node ≡ node_form.Name x → out-ExprNode (out-Expr e).node ≡ ExprNode-F.Name x
unfolding out-ExprNode denote.Hole.Carrier.out
name_form e x is = ap out-ExprNode is

-- ---- turns

module _ (s : PartialState) (x : Bytes) (ss : List Stmt) where
  -- what each of a loop's statements does
  abbrev does : PartialState → List (Statement Kept)
  does t = map (stmt_run (kept t)) ss

  -- a turn that is begun: its tick is charged and its text is bound
  pub turn_goes : (text : Bytes) (names : Names) (run charged' : Progress Kept) (old new : Pause) (outside : ℕ) (r : Result (Unit {0}) Stop)
      → charge 1 run ≡ gives unit charged' → old.names ≡ names ++ (x, item.Text text) ∷ [] → old.run ≡ charged' → old.at ≡ 0 → old.trail ≡ []
      → outside ≡ length names → GoesOn s r (block_left ss outside) old new
      → Goes s r new.names new.run (λ t. block_left ss (length names) t new) (λ t. turn x (does t) text names run)
  turn_goes text names run charged' old new outside r tick bound same at none count goes =
      goes_left s r new.names new.run (λ t. block_left ss outside t new) (λ t. block_left ss (length names) t new) (λ t. turn x (does t) text names run)
      (λ t more. ap (λ n. block_left ss n t new) count)
      (goes_by s r new.names new.run (λ t. block_left ss outside t new) (λ t. block_left ss outside t old) (λ t. turn x (does t) text names run)
      (λ t more.
      ap (λ u. and_then u (λ _ q. and_then (all_steps (does t) (names ++ (x, item.Text text) ∷ []) q) (λ after. pure (take (length names) after)))) tick
      ∙ (ap (λ xs. and_then (all_steps (does t) xs charged') (λ after. pure (take (length names) after))) (sym bound)
      ∙ (ap (λ q. and_then (all_steps (does t) old.names q) (λ after. pure (take (length names) after))) (sym same)
      ∙ (ap (λ n. and_then (all_steps (does t) old.names old.run) (λ after. pure (take n after))) (sym count)
      ∙ sym (block_is t ss outside old at none)))))
      goes)

  -- a turn that goes through leaves the names as they were
  pub turn_names : (text : Bytes) (names after : Names) (p q : Progress Kept) → turn x (does s) text names p ≡ gives after q → after ≡ names
  turn_names text names after p q did = subst (Same names) did (turn_same x (does s) (stmts_bound (kept s) ss) text names p)

  module _ (over : Over) where
    -- what the turns from a place on do
    abbrev from : PartialState → ℕ → Names → Stepping Kept Names
    from t place names = turns x (does t) (drop place (texts_over over names)) names

    -- the next turn, and those behind it
    next_turn : (t : PartialState) (place : ℕ) (text : Bytes) (names : Names) (p : Progress Kept) → slice_get (texts_over over names) place ≡ Some text
        → from t place names p ≡ and_then (turn x (does t) text names p) (λ after. from t (place + 1) after)
    next_turn t place text names p is =
        ap (λ ts. turns x (does t) ts names p) (dropped (texts_over over names) place is)
        ∙ behind_same (turn x (does t) text names p) (turn_same x (does t) (stmts_bound (kept t) ss) text names p)
      where
        dropped : (ts : List Bytes) (k : ℕ) → slice_get ts k ≡ Some text → drop k ts ≡ text ∷ drop (k + 1) ts
        dropped [] k none = absurd (cc)
        dropped (t ∷ ts) zero is = ap (λ o. unwrap_or o t ∷ ts) is ∙ ap (λ us. text ∷ us) (none_dropped ts)
          where
            none_dropped : (us : List Bytes) → us ≡ drop 0 us
            none_dropped [] = refl
            none_dropped (u ∷ us) = refl
        dropped (t ∷ ts) (suc k) is =
            dropped ts k is ∙ ap (λ j. text ∷ drop j (t ∷ ts)) (let up : suc (k + 1) ≡ suc k + 1 = omega arith in up)

        behind_same : (u : Step Kept Names) → Same names u
            → and_then u (λ after. turns x (does t) (drop (place + 1) (texts_over over names)) after) ≡ and_then u (λ after. from t (place + 1) after)
        behind_same (stopped e q) same = refl
        behind_same (gives after q) same = ap (λ xs. turns x (does t) (drop (place + 1) (texts_over over xs)) after q) (sym same)

    -- behind the last turn nothing is done
    pub turns_end : (t : PartialState) (place : ℕ) (names : Names) (p : Progress Kept) → slice_get (texts_over over names) place ≡ None
        → from t place names p ≡ gives names p
    turns_end t place names p none = ap (λ ts. turns x (does t) ts names p) (ended (texts_over over names) place none)
      where
        ended : (ts : List Bytes) (k : ℕ) → slice_get ts k ≡ None → drop k ts ≡ []
        ended [] zero none = refl
        ended [] (suc k) none = refl
        ended (t ∷ ts) zero none = absurd (cc)
        ended (t ∷ ts) (suc k) none = ended ts k none

    module _ (whole : Steps) (place : ℕ) (text : Bytes) (names : Names) (p : Progress Kept) (goes : Same_on s whole (λ t. from t place names p))
        (is : slice_get (texts_over over names) place ≡ Some text) where
      -- a turn that goes through
      pub turn_done : (after : Names) (q : Progress Kept) → ((t : PartialState) → Extends s t → turn x (does t) text names p ≡ gives after q)
          → Same_on s whole (λ t. from t (place + 1) after q)
      turn_done after q did t more =
          goes t more ∙ (next_turn t place text names p is ∙ ap (λ u. and_then u (λ after. from t (place + 1) after)) (did t more))

      -- a turn that stops
      pub turn_stops : (e : Stop) (after : Names) (q : Progress Kept) (rest : Steps) → Goes s (Err e) after q rest (λ t. turn x (does t) text names p)
          → Goes s (Err e) after q (λ t. and_then (rest t) (λ after. from t (place + 1) after)) whole
      turn_stops e after q rest stops =
          goes_by s (Err e) after q _ (λ t. and_then (turn x (does t) text names p) (λ after. from t (place + 1) after)) whole
          (λ t more. goes t more ∙ next_turn t place text names p is)
          (stop_then s e after after q rest (λ t. turn x (does t) text names p) (λ t after. from t (place + 1) after) stops)

      -- a turn that needs a value
      pub turn_needs : (taken : Over) → ((ns : Names) → left_behind place over ns ≡ left_behind place taken ns)
          → (e stop' : Stop) (a : Address) (outside here next : ℕ) (k new : Pause) (expr : Expr) → stop' ≡ stop.Need a
          → Enters e a new (inside (around.Turn (record { over = taken; next = next })) outside here k) → next ≡ place + 1
          → Goes s (Err stop') k.names k.run (λ t. block_left ss outside t k) (λ t. turn x (does t) text names p)
          → GoesIn s (Err e) (node_left (StmtNode-F.For x expr ss)) whole new
      turn_needs taken behind e stop' a outside here next k new expr needs enters count stops =
          block_needs s e stop' a (around.Turn (record { over = taken; next = next })) ss outside here k new (node_left (StmtNode-F.For x expr ss))
          (λ t. and_then (block_left ss outside t k) (λ after. from t (place + 1) after)) whole needs enters
          (λ t more.
          (λ i. and_then (block_left ss outside t k) (λ after. turns x (does t) (behind after i) after))
          ∙ (ap (λ n. and_then (block_left ss outside t k) (λ after. turns x (does t) (drop n (texts_over taken after)) after)) (sym count)
          ∙ sym (round_is t x expr ss taken next outside k)))
          (turn_stops stop' k.names k.run (λ t. block_left ss outside t k) stops)

    -- what is left of a turn, behind which the turns go on
    module _ (expr : Expr) (place outside : ℕ) (old : Pause) where
      pub round_done : (k new : Pause) (r : Result (Unit {0}) Stop) → ((t : PartialState) → Extends s t → block_left ss outside t old ≡ gives k.names k.run)
          → GoesIn s r (node_left (StmtNode-F.For x expr ss)) (λ t. from t place k.names k.run) new
          → GoesIn s r (node_left (StmtNode-F.For x expr ss)) (λ t. node_left (StmtNode-F.For x expr ss) (around.Turn (record { over = over; next = place })) outside t old) new
      round_done k new r did goes =
          in_by s r (node_left (StmtNode-F.For x expr ss)) (λ t. from t place k.names k.run)
          (λ t. node_left (StmtNode-F.For x expr ss) (around.Turn (record { over = over; next = place })) outside t old) new
          (λ t more. round_is t x expr ss over place outside old ∙ ap (λ u. and_then u (λ after. from t place after)) (did t more)) goes

      round_stops : (e : Stop) (k : Pause) → Goes s (Err e) k.names k.run (λ t. block_left ss outside t k) (λ t. block_left ss outside t old)
          → Goes s (Err e) k.names k.run (λ t. node_left (StmtNode-F.For x expr ss) (around.Turn (record { over = over; next = place })) outside t k)
          (λ t. node_left (StmtNode-F.For x expr ss) (around.Turn (record { over = over; next = place })) outside t old)
      round_stops e k stops =
          goes_left s (Err e) k.names k.run _ (λ t. node_left (StmtNode-F.For x expr ss) (around.Turn (record { over = over; next = place })) outside t k) _
          (λ t more. sym (round_is t x expr ss over place outside k))
          (goes_by s (Err e) k.names k.run _ (λ t. and_then (block_left ss outside t old) (λ after. from t place after)) _
          (λ t more. round_is t x expr ss over place outside old)
          (stop_then s e k.names k.names k.run (λ t. block_left ss outside t k) (λ t. block_left ss outside t old) (λ t after. from t place after) stops))

      pub round_needs : (e stop' : Stop) (a : Address) (here : ℕ) (k new : Pause) → stop' ≡ stop.Need a
          → Enters e a new (inside (around.Turn (record { over = over; next = place })) outside here k)
          → Goes s (Err stop') k.names k.run (λ t. block_left ss outside t k) (λ t. block_left ss outside t old)
          → GoesIn s (Err e) (node_left (StmtNode-F.For x expr ss)) (λ t. node_left (StmtNode-F.For x expr ss) (around.Turn (record { over = over; next = place })) outside t old) new
      round_needs e stop' a here k new needs enters stops =
          block_needs s e stop' a (around.Turn (record { over = over; next = place })) ss outside here k new (node_left (StmtNode-F.For x expr ss)) _ _ needs enters
          (λ t more. refl) (round_stops stop' k stops)

-- ---- statements in order

module _ (s : PartialState) (stmts : List Stmt) (pause : Pause) (stmt : Stmt) (next : drop pause.at stmts ≡ stmt ∷ drop (suc pause.at) stmts) where
  -- the next statement, and those behind it
  next_is : (t : PartialState) → stmts_left stmts t pause
      ≡ and_then (stmt_left stmt t pause) (λ after. all_steps (map (stmt_run (kept t)) (drop (suc pause.at) stmts)) after)
  next_is t = ap (λ ss. first_rest (kept t) (stmt_rest (kept t) pause.trail) ss pause.names pause.run) next

  -- where the next statement goes through, those behind it are left
  pub next_goes : (new : Pause) → ((t : PartialState) → Extends s t → stmt_left stmt t pause ≡ gives new.names new.run) → new.at ≡ pause.at → new.trail ≡ []
      → (t : PartialState) → Extends s t → stmts_left stmts t pause ≡ stmts_left stmts t (record new { at = new.at + 1 })
  next_goes new did at none t more =
      next_is t
      ∙ (ap (λ u. and_then u (λ after. all_steps (map (stmt_run (kept t)) (drop (suc pause.at) stmts)) after)) (did t more)
      ∙ (sym (none_first (drop (suc pause.at) stmts))
      ∙ (ap (λ fs. first_rest (kept t) (stmt_rest (kept t) fs) (drop (suc pause.at) stmts) new.names new.run) (sym none)
      ∙ ap (λ n. first_rest (kept t) (stmt_rest (kept t) new.trail) (drop n stmts) new.names new.run)
      (let up : suc pause.at ≡ new.at + 1 = omega (arith, at) in up))))
    where
      none_first : (ss : List Stmt) → first_rest (kept t) (stmt_rest (kept t) []) ss new.names new.run ≡ all_steps (map (stmt_run (kept t)) ss) new.names new.run
      none_first ss = first_all (kept t) ss new.names new.run

  -- where it stops, so do they
  pub next_stops : (e : Stop) (new : Pause) → OnGoing (Err e) (new.at ≡ pause.at)
      → Goes s (Err e) new.names new.run (λ t. stmt_left stmt t new) (λ t. stmt_left stmt t pause)
      → Goes s (Err e) new.names new.run (λ t. stmts_left stmts t new) (λ t. stmts_left stmts t pause)
  next_stops e new at stops =
      by e at
      (goes_by s (Err e) new.names new.run _ (λ t. and_then (stmt_left stmt t pause) (λ after. all_steps (map (stmt_run (kept t)) (drop (suc pause.at) stmts)) after)) _
      (λ t more. next_is t)
      (stop_then s e new.names new.names new.run (λ t. stmt_left stmt t new) (λ t. stmt_left stmt t pause)
      (λ t after. all_steps (map (stmt_run (kept t)) (drop (suc pause.at) stmts)) after) stops))
    where
      left_is : new.at ≡ pause.at → (t : PartialState)
          → and_then (stmt_left stmt t new) (λ after. all_steps (map (stmt_run (kept t)) (drop (suc pause.at) stmts)) after) ≡ stmts_left stmts t new
      left_is at t = sym (ap (λ ss. first_rest (kept t) (stmt_rest (kept t) new.trail) ss new.names new.run) (ap (λ n. drop n stmts) at ∙ next))

      by : (e : Stop) → OnGoing (Err e) (new.at ≡ pause.at)
          → Goes s (Err e) new.names new.run
          (λ t. and_then (stmt_left stmt t new) (λ after. all_steps (map (stmt_run (kept t)) (drop (suc pause.at) stmts)) after)) (λ t. stmts_left stmts t pause)
          → Goes s (Err e) new.names new.run (λ t. stmts_left stmts t new) (λ t. stmts_left stmts t pause)
      by (stop.Need a) at goes = goes_left s (Err (stop.Need a)) new.names new.run _ (λ t. stmts_left stmts t new) _ (λ t more. left_is at t) goes
      by (stop.Fail z) at goes = goes
      by stop.Spent at goes = goes
      by stop.Big at goes = goes
      by stop.NoMemory at goes = goes

-- ---- a statement in whose block a run stands

module _ (s : PartialState) (stmt : Stmt) (old : Pause) (frame : Frame) where
  -- what is left of it is what is left of its form
  pub within_is : (node : StmtNode-F StmtNode Stmt) → out-StmtNode (out-Stmt stmt).node ≡ node → (t : PartialState)
      → stmt_left stmt t (record old { trail = frame ∷ old.trail }) ≡ node_left node frame.around frame.outside t (record old { at = frame.at })
  unfolding stmt_rest
  within_is node is t = ap (λ n. node_left n frame.around frame.outside t (record old { at = frame.at })) is

  pub within_goes : (node : StmtNode-F StmtNode Stmt) (r : Result (Unit {0}) Stop) (new : Pause) → out-StmtNode (out-Stmt stmt).node ≡ node
      → GoesIn s r (node_left node) (λ t. node_left node frame.around frame.outside t (record old { at = frame.at })) new
      → GoesOn s r (stmt_left stmt) (record old { trail = frame ∷ old.trail }) new
  within_goes node r new is goes =
      in_statement s r stmt node (λ t. stmt_left stmt t (record old { trail = frame ∷ old.trail })) new is
      (in_by s r (node_left node) _ _ new (λ t more. within_is node is t) goes)

  -- a branch, by what is around it
  pub within_branch : (node : StmtNode-F StmtNode Stmt) (x : Around) (slice : List Stmt) (r : Result (Unit {0}) Stop) (new : Pause)
      → out-StmtNode (out-Stmt stmt).node ≡ node → frame.around ≡ x
      → ((t : PartialState) (k : Pause) → block_left slice frame.outside t k ≡ node_left node x frame.outside t k)
      → ((node : StmtNode-F StmtNode Stmt) → ((t : PartialState) (k : Pause) → block_left slice frame.outside t k ≡ node_left node x frame.outside t k)
      → GoesIn s r (node_left node) (λ t. block_left slice frame.outside t (record old { at = frame.at })) new)
      → GoesOn s r (stmt_left stmt) (record old { trail = frame ∷ old.trail }) new
  within_branch node x slice r new is at same goes =
      within_goes node r new is
      (in_by s r (node_left node) (λ t. block_left slice frame.outside t (record old { at = frame.at }))
      (λ t. node_left node frame.around frame.outside t (record old { at = frame.at })) new
      (λ t more. ap (λ y. node_left node y frame.outside t (record old { at = frame.at })) at ∙ sym (same t (record old { at = frame.at })))
      (goes node same))

  -- a turn
  pub within_turn : (x : Bytes) (e : Expr) (ss slice : List Stmt) (left : Turns) (r : Result (Unit {0}) Stop) (new : Pause)
      → out-StmtNode (out-Stmt stmt).node ≡ StmtNode-F.For x e ss → slice ≡ ss → frame.around ≡ around.Turn left
      → ((e : Expr) → GoesIn s r (node_left (StmtNode-F.For x e slice))
      (λ t. node_left (StmtNode-F.For x e slice) (around.Turn left) frame.outside t (record old { at = frame.at })) new)
      → GoesOn s r (stmt_left stmt) (record old { trail = frame ∷ old.trail }) new
  within_turn x e ss slice left r new form is at goes =
      within_goes (StmtNode-F.For x e slice) r new (form ∙ ap (λ zs. StmtNode-F.For x e zs) (sym is))
      (in_by s r (node_left (StmtNode-F.For x e slice))
      (λ t. node_left (StmtNode-F.For x e slice) (around.Turn left) frame.outside t (record old { at = frame.at }))
      (λ t. node_left (StmtNode-F.For x e slice) frame.around frame.outside t (record old { at = frame.at })) new
      (λ t more. ap (λ y. node_left (StmtNode-F.For x e slice) y frame.outside t (record old { at = frame.at })) at)
      (goes e))

-- where a step stops for no value, no pause is told
pub stop_in : (s : PartialState) (e : Stop) (left : Around → ℕ → PartialState → Pause → Step Kept Names) (rest whole : Steps) (new : Pause)
    → ((a : Address) → e ≢ stop.Need a) → Goes s (Err e) new.names new.run rest whole → GoesIn s (Err e) left whole new
stop_in s (stop.Need a) left rest whole new none is = absurd (none a refl)
stop_in s (stop.Fail z) left rest whole new none is = is
stop_in s stop.Spent left rest whole new none is = is
stop_in s stop.Big left rest whole new none is = is
stop_in s stop.NoMemory left rest whole new none is = is

pub stop_going : (P : Type 0) (e : Stop) → ((a : Address) → e ≢ stop.Need a) → OnGoing (Err e) P
stop_going P (stop.Need a) none = absurd (none a refl)
stop_going P (stop.Fail z) none = tt
stop_going P stop.Spent none = tt
stop_going P stop.Big none = tt
stop_going P stop.NoMemory none = tt

-- ---- whole runs

-- every run begins before its first statement
pub first_is : (stmts : List Stmt) (snaps : List (Address × Snap)) → IsPauseOf stmts snaps first_pause
first_is stmts snaps = record { comes = λ t more. sym (rest_all (kept t) stmts [] (begun nothing_kept)) }

module _ (stmts : List Stmt) (snaps : List (Address × Snap)) where
  -- what all statements do from the beginning of a run
  abbrev pub all : Steps
  all t = all_steps (map (stmt_run (kept t)) stmts) [] (begun nothing_kept)

  -- what is told of what is left is told of all
  pub told_of_all : (r : Result (Unit {0}) Stop) (old new : Pause) → IsPauseOf stmts snaps old → GoesOn (values_of snaps) r (stmts_left stmts) old new
      → Goes (values_of snaps) r new.names new.run (λ t. stmts_left stmts t new) all
  told_of_all r old new is goes = goes_by (values_of snaps) r new.names new.run (λ t. stmts_left stmts t new) (λ t. stmts_left stmts t old) all is.comes goes

  -- where a value is needed, the run has come to the pause
  pub paused_is : (a : Address) (new : Pause) → Goes (values_of snaps) (Err (stop.Need a)) new.names new.run (λ t. stmts_left stmts t new) all
      → IsPauseOf stmts snaps new
  paused_is a new goes = record { comes = goes.1 }

  pub need_told : (a : Address) (new : Pause) → Goes (values_of snaps) (Err (stop.Need a)) new.names new.run (λ t. stmts_left stmts t new) all
      → need a ≡ kept_ended (all (values_of snaps))
  need_told a new goes = ap kept_ended (sym goes.0.1)

  -- and where it has ended, so has the run
  pub end_told : (r : Result (Unit {0}) Stop) (new : Pause) (ran : Ran)
      → Goes (values_of snaps) r new.names new.run (λ t. stmts_left stmts t new) all → EndsAs r new.run ran → ran ≡ kept_ended (all (values_of snaps))
  end_told (Ok x) new ran goes ends = ends ∙ ap kept_ended (sym (goes (values_of snaps) (extends_itself (values_of snaps))))
  end_told (Err (stop.Need a)) new ran goes ends = ends.1 ∙ ap kept_ended (sym goes.0.1)
  end_told (Err (stop.Fail z)) new ran goes ends = ends.1 ∙ ap kept_ended (sym (goes ends.0))
  end_told (Err stop.Spent) new ran goes ends = ends.1 ∙ ap kept_ended (sym (goes ends.0))
  end_told (Err stop.Big) new ran goes ends = ends.1 ∙ ap kept_ended (sym (goes ends.0))
  end_told (Err stop.NoMemory) new ran goes ends = ends.1 ∙ ap kept_ended (sym (goes ends.0))
