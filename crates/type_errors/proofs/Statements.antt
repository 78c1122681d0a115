-- Where statements fail: the checker's column, and back.
use Rattle.std.proofs.Common.{◌≡◌, ℕ, List, [], ◌∷◌, ◌++◌, ◌⊎◌, inl, inr, map, Option, Some, None, Ok, Err, refl, ap, sym, ◌∙◌, subst}
use Rattle.std.specs.List.{AllByRecursion}
use Rattle.plain_data.specs.Texts.{Bytes}
use Rattle.txn_trees.specs.declared.expression.Expr.{Expr}
use Rattle.txn_trees.specs.declared.statement.Stmt.{Stmt, out-Stmt, roll-Stmt}
use Rattle.txn_trees.specs.declared.statement.StmtNode.{StmtNode, out-StmtNode, map-StmtNode}
use Rattle.txn_trees.specs.declared.statement.StmtNode.TheOpen.{StmtNode-F}
use Rattle.txn_trees.specs.declared.statement.StmtNode.TheFolds.{ind-Stmt}
use Rattle.txn_trees.specs.declared.statement.StmtNode.TheViews.{out-roll-StmtNode, out-roll-Stmt}
use Rattle.txn_grammar.specs.Trees.{column_of}
use Rattle.txn_lang.specs.declared.item_type.Type.{«Type» as ItemType}
use Rattle.txn_lang.specs.declared.item_type.Type.TheVariants as type
use Rattle.txn_lang.specs.Types.{Names, same, written_type}
use Rattle.txn_lang.specs.Typing.{HasType, AreTyped, Judged, and_then, unless, told, all_of, typed, type_of, expect, step_of, else_of}
use Rattle.txn_lang.specs.Typing.{in_order, block, judge_write, judge_step, names_after}
use Rattle.txn_lang.proofs.Typing.{then_ok, deep_step, names_by, body_sound, order_found, Ends}
use Rattle.type_errors.specs.Failing.{Asked, any, of_type, operands_in, IsUnsuited, Binds, BlockFails, TypeErrorsAreFirst}
use Rattle.type_errors.proofs.Gone.{found, typed_by, go_all, FailsInside, Sound, all_stop_there, all_told_there}
use Rattle.type_errors.proofs.Nodes.{fault_of, fault, first_and_more, one_expected}
use Rattle.type_errors.proofs.Expressions.{err_of, operands_fail, expr_fails, expr_told}

-- ---- small steps

-- what stops stops in the first part, or in the second behind what the first gave
then_stops : {A B : Type 0} (r : Judged A) (f : A → Judged B) (column : ℕ) → and_then r f ≡ Err column
    → (r ≡ Err column) ⊎ ((a : A) × ((r ≡ Ok a) × (f a ≡ Err column)))
then_stops (Ok a) f column e = inr (a, (refl, e))
then_stops (Err other) f column e = inl (cc)

-- what ends behind a complaint had none
told_ends : {A : Type 0} (complaint : Option ℕ) (a b : A) → told complaint a ≡ Ok b → a ≡ b
told_ends None a b e = cc
told_ends (Some column) a b e = absurd (cc)

-- a block stops where its statements do
block_stops : (fs : List (Names → Judged Names)) (names : Names) (column : ℕ) → block fs names ≡ Err column → in_order fs names ≡ Err column
block_stops fs names column e = by (in_order fs names) e
  where
    by : (r : Judged Names) → and_then r (λ after. Ok names) ≡ Err column → r ≡ Err column
    by (Ok after) e = absurd (cc)
    by (Err other) e = cc

-- one that was to be of a type has it
expected_type : (names : Names) (wanted : ItemType) (e : Expr) (t : ItemType) → expect wanted e names ≡ Ok t → HasType names e wanted
expected_type names wanted e t ok = by (type_of e names) refl ok
  where
    test : (own : ItemType) → type_of e names ≡ Ok own → told (unless (same own wanted) (column_of e)) own ≡ Ok t → HasType names e wanted
    test own is ok = matching own wanted is ok
      where
        matching : (own wanted : ItemType) → type_of e names ≡ Ok own → told (unless (same own wanted) (column_of e)) own ≡ Ok t → HasType names e wanted
        matching type.Int type.Int is ok = typed_by names e type.Int is
        matching type.Bool type.Bool is ok = typed_by names e type.Bool is
        matching type.Text type.Text is ok = typed_by names e type.Text is
        matching type.Texts type.Texts is ok = typed_by names e type.Texts is
        matching _ _ is ok = absurd (cc)

    by : (r : Judged ItemType) → type_of e names ≡ r → and_then r (λ own. told (unless (same own wanted) (column_of e)) own) ≡ Ok t → HasType names e wanted
    by (Err other) is ok = absurd (cc)
    by (Ok own) is ok = test own is ok

-- and one that has it passes
expect_passes : (names : Names) (wanted : ItemType) (e : Expr) → HasType names e wanted → expect wanted e names ≡ Ok wanted
expect_passes names wanted e h =
    ap (λ r. and_then r (λ own. told (unless (same own wanted) (column_of e)) own)) (found names e wanted h) ∙ self wanted
  where
    self : (t : ItemType) → told (unless (same t t) (column_of e)) t ≡ Ok t
    self type.Int = refl
    self type.Bool = refl
    self type.Text = refl
    self type.Texts = refl

-- ---- the operands of a statement

module _ (names : Names) (s : Stmt) (ss : List Stmt) where
  -- expressions are sound, whatever is asked of them
  all_sound : (all : List Asked) → AllByRecursion (Sound names) all
  all_sound [] = tt
  all_sound (a ∷ rest) = (expr_fails names a.operand, all_sound rest)

  -- what the loop tells of a statement's operands is where it fails
  operands_told : (n : StmtNode-F StmtNode Stmt) (column : ℕ) → step_of s ≡ n → fault (go_all names (operands_in n)) ≡ Some column
      → BlockFails names (s ∷ ss) column
  operands_told n column is ends = by (operands_fail names (operands_in n) column (all_sound (operands_in n)) ends)
    where
      by : FailsInside names (operands_in n) column ⊎ IsUnsuited names (operands_in n) column → BlockFails names (s ∷ ss) column
      by (inl found) =
          BlockFails.inside names s ss column found.before found.after found.here (ap operands_in is ∙ found.split) found.typed found.fails
      by (inr found) = BlockFails.unsuited names s ss column (subst (λ m. IsUnsuited names (operands_in m) column) (sym is) found)

  -- an expression of any type fails by itself alone
  any_told : (n : StmtNode-F StmtNode Stmt) (e : Expr) (column : ℕ) → step_of s ≡ n → operands_in n ≡ any e ∷ [] → type_of e names ≡ Err column
      → BlockFails names (s ∷ ss) column
  any_told n e column is only ends =
      BlockFails.inside names s ss column [] [] (any e) (ap operands_in is ∙ only) tt (expr_fails names e column ends)

  -- one that is to be of a type
  expected_told : (n : StmtNode-F StmtNode Stmt) (wanted : ItemType) (e : Expr) (column : ℕ) → step_of s ≡ n → operands_in n ≡ of_type wanted e ∷ []
      → expect wanted e names ≡ Err column → BlockFails names (s ∷ ss) column
  expected_told n wanted e column is only ends =
      operands_told n column is (ap (λ all. fault (go_all names all)) only ∙ sym (one_expected names wanted e) ∙ ap fault_of ends)

-- ---- what is told is where statements fail

-- a column that is told of a statement is where it fails, whatever is behind it
abbrev StmtSound : Stmt → Type 0
StmtSound s = (names : Names) (ss : List Stmt) (column : ℕ) → names_after s names ≡ Err column → BlockFails names (s ∷ ss) column

-- a statement that binds a name or none leaves those names
binds : (names next : Names) (s : Stmt) → names_after s names ≡ Ok next → Binds names s next
binds names next s ok = by (step_of s) refl (sym (names_by names s (step_of s) refl) ∙ ok)
  where
    typed_alone : AreTyped names (s ∷ [])
    typed_alone = body_sound (s ∷ []) names next (ap (λ r. and_then r (in_order [])) ok)

    kept : ((x : Bytes) (e : Expr) → step_of s ≡ StmtNode-F.Let x e → ⊥) → names ≡ next → Binds names s next
    kept binds_none same_names = subst (Binds names s) same_names (Binds.none binds_none typed_alone)

    ends_block : (fs : List (Names → Judged Names)) → block fs names ≡ Ok next → names ≡ next
    ends_block fs e = let z = then_ok (in_order fs names) (λ t. Ok names) next e in cc (z.1.1)

    by : (n : StmtNode-F StmtNode Stmt) → step_of s ≡ n → judge_step (deep_step n) names ≡ Ok next → Binds names s next
    by (StmtNode-F.Let x e) is done =
        let z = then_ok (type_of e names) (λ t. Ok (names ++ (x, t) ∷ [])) next done in
        let same_names : names ++ (x, z.0) ∷ [] ≡ next = cc (z.1.1) in
        subst (Binds names s) same_names (Binds.one x e z.0 is (typed_by names e z.0 z.1.0))
    by (StmtNode-F.Emit e) is done =
        let z = then_ok (type_of e names) (λ t. Ok names) next done in kept (λ x a bad. absurd (cc (sym is ∙ bad))) (cc (z.1.1))
    by (StmtNode-F.Fail e) is done =
        let z = then_ok (expect type.Text e names) (λ t. Ok names) next done in kept (λ x a bad. absurd (cc (sym is ∙ bad))) (cc (z.1.1))
    by (StmtNode-F.If e xs None) is done =
        let z = then_ok (expect type.Bool e names) (λ t. and_then (block (map names_after xs) names) (λ t. Ok names)) next done in
        let q = then_ok (block (map names_after xs) names) (λ t. Ok names) next z.1.1 in
        kept (λ x a bad. absurd (cc (sym is ∙ bad))) (cc (q.1.1))
    by (StmtNode-F.If e xs (Some zs)) is done =
        let other = block (map names_after zs) names in
        let z = then_ok (expect type.Bool e names) (λ t. and_then (block (map names_after xs) names) (λ t. other)) next done in
        let q = then_ok (block (map names_after xs) names) (λ t. other) next z.1.1 in
        kept (λ x a bad. absurd (cc (sym is ∙ bad))) (ends_block (map names_after zs) q.1.1)
    by (StmtNode-F.For x e xs) is done =
        let inner = names ++ (x, type.Text) ∷ [] in
        let z = then_ok (expect type.Texts e names) (λ t. and_then (in_order (map names_after xs) inner) (λ t. Ok names)) next done in
        let q = then_ok (in_order (map names_after xs) inner) (λ t. Ok names) next z.1.1 in
        kept (λ y a bad. absurd (cc (sym is ∙ bad))) (cc (q.1.1))
    by (StmtNode-F.Write k key word es) is done =
        let first = λ (u : ItemType). unless (same u type.Text) (column_of key) in
        let w = written_type k in
        let z = then_ok (type_of key names) (λ u. and_then (all_of w (first u) (map typed es) names) (λ c. told c names)) next done in
        let q = then_ok (all_of w (first z.0) (map typed es) names) (λ c. told c names) next z.1.1 in
        kept (λ x a bad. absurd (cc (sym is ∙ bad))) (told_ends q.0 names next q.1.1)

-- a conditional fails in its condition, or in one of its blocks
if_fails : (names : Names) (s : Stmt) (ss : List Stmt) (e : Expr) (inner : List Stmt) (other : Option (List Stmt)) (column : ℕ)
    → step_of s ≡ StmtNode-F.If e inner other
    → (in_order (map names_after inner) names ≡ Err column → BlockFails names inner column)
    → (in_order (map names_after (else_of other)) names ≡ Err column → BlockFails names (else_of other) column)
    → and_then (expect type.Bool e names)
    (λ t. and_then (block (map names_after inner) names) (λ t. block (map names_after (else_of other)) names)) ≡ Err column
    → BlockFails names (s ∷ ss) column
if_fails names s ss e inner other column is then_part else_part ends =
    first (then_stops (expect type.Bool e names) (λ t. and_then (block (map names_after inner) names) (λ t. else_run)) column ends)
  where
    else_run : Judged Names
    else_run = block (map names_after (else_of other)) names

    typed_inner : (after : Names) → block (map names_after inner) names ≡ Ok after → AreTyped names inner
    typed_inner after ok = let z = then_ok (in_order (map names_after inner) names) (λ t. Ok names) after ok in body_sound inner names z.0 z.1.0

    second : HasType names e type.Bool → (block (map names_after inner) names ≡ Err column)
        ⊎ ((after : Names) × ((block (map names_after inner) names ≡ Ok after) × (else_run ≡ Err column)))
        → BlockFails names (s ∷ ss) column
    second cond (inl here) =
        BlockFails.then_do names s ss inner other e column is cond (then_part (block_stops (map names_after inner) names column here))
    second cond (inr later) =
        BlockFails.else_do names s ss inner other e column is cond (typed_inner later.0 later.1.0)
        (else_part (block_stops (map names_after (else_of other)) names column later.1.1))

    first : (expect type.Bool e names ≡ Err column) ⊎ ((t : ItemType) × ((expect type.Bool e names ≡ Ok t)
        × (and_then (block (map names_after inner) names) (λ t. else_run) ≡ Err column)))
        → BlockFails names (s ∷ ss) column
    first (inl here) = expected_told names s ss (StmtNode-F.If e inner other) type.Bool e column is refl here
    first (inr later) =
        second (expected_type names type.Bool e later.0 later.1.0)
        (then_stops (block (map names_after inner) names) (λ t. else_run) column later.1.1)

-- a loop fails in what it goes over, or in its block
for_fails : (names : Names) (s : Stmt) (ss : List Stmt) (x : Bytes) (e : Expr) (inner : List Stmt) (column : ℕ)
    → step_of s ≡ StmtNode-F.For x e inner
    → (in_order (map names_after inner) (names ++ (x, type.Text) ∷ []) ≡ Err column → BlockFails (names ++ (x, type.Text) ∷ []) inner column)
    → and_then (expect type.Texts e names)
    (λ t. and_then (in_order (map names_after inner) (names ++ (x, type.Text) ∷ [])) (λ t. Ok names)) ≡ Err column
    → BlockFails names (s ∷ ss) column
for_fails names s ss x e inner column is part ends =
    first (then_stops (expect type.Texts e names) (λ t. and_then (in_order (map names_after inner) bound) (λ t. Ok names)) column ends)
  where
    bound : Names
    bound = names ++ (x, type.Text) ∷ []

    second : HasType names e type.Texts → (in_order (map names_after inner) bound ≡ Err column)
        ⊎ ((after : Names) × ((in_order (map names_after inner) bound ≡ Ok after) × (Ok names ≡ Err column)))
        → BlockFails names (s ∷ ss) column
    second over (inl here) = BlockFails.turns names s ss inner x e column is over (part here)
    second over (inr later) = absurd (cc (later.1.1))

    first : (expect type.Texts e names ≡ Err column) ⊎ ((t : ItemType) × ((expect type.Texts e names ≡ Ok t)
        × (and_then (in_order (map names_after inner) bound) (λ t. Ok names) ≡ Err column)))
        → BlockFails names (s ∷ ss) column
    first (inl here) = expected_told names s ss (StmtNode-F.For x e inner) type.Texts e column is refl here
    first (inr later) =
        second (expected_type names type.Texts e later.0 later.1.0)
        (then_stops (in_order (map names_after inner) bound) (λ t. Ok names) column later.1.1)

-- statements in order: the first one fails, or it is well typed and those behind it do
module _ {X : Type 0} (hS : X → Stmt) (stmts : (x : X) → StmtSound (hS x)) where
  order_fails : (xs : List X) (names : Names) (column : ℕ) → in_order (map names_after (map hS xs)) names ≡ Err column
      → BlockFails names (map hS xs) column
  order_fails [] names column e = absurd (cc)
  order_fails (x ∷ xs) names column e =
      by (order_fails xs) (then_stops (names_after (hS x) names) (in_order (map names_after (map hS xs))) column e)
    where
      by : ((names : Names) (column : ℕ) → in_order (map names_after (map hS xs)) names ≡ Err column → BlockFails names (map hS xs) column)
          → (names_after (hS x) names ≡ Err column) ⊎ ((next : Names) × ((names_after (hS x) names ≡ Ok next)
          × (in_order (map names_after (map hS xs)) next ≡ Err column))) → BlockFails names (hS x ∷ map hS xs) column
      by rest (inl here) = stmts x names (map hS xs) column here
      by rest (inr later) =
          BlockFails.behind names later.0 (hS x) (map hS xs) column (binds names later.0 (hS x) later.1.0) (rest later.0 column later.1.1)

  -- one layer: each statement in it is some statement, by h, of which that is so
  module _ {N : Type 0} (hN : N → StmtNode) where
    abbrev layer : StmtNode-F N X → StmtNode-F StmtNode Stmt
    layer = map-StmtNode N X StmtNode Stmt hN hS

    layer_fails : (y : StmtNode-F N X) (s : Stmt) → step_of s ≡ layer y → StmtSound s
    layer_fails (StmtNode-F.Let x e) s is names ss column ends =
        let f = λ (t : ItemType). Ok (names ++ (x, t) ∷ []) in
        by (then_stops (type_of e names) f column (sym (names_by names s (StmtNode-F.Let x e) is) ∙ ends))
      where
        by : (type_of e names ≡ Err column) ⊎ ((t : ItemType) × ((type_of e names ≡ Ok t) × (Ok (names ++ (x, t) ∷ []) ≡ Err column)))
            → BlockFails names (s ∷ ss) column
        by (inl here) = any_told names s ss (StmtNode-F.Let x e) e column is refl here
        by (inr later) = absurd (cc (later.1.1))
    layer_fails (StmtNode-F.Emit e) s is names ss column ends =
        by (then_stops (type_of e names) (λ t. Ok names) column (sym (names_by names s (StmtNode-F.Emit e) is) ∙ ends))
      where
        by : (type_of e names ≡ Err column) ⊎ ((t : ItemType) × ((type_of e names ≡ Ok t) × (Ok names ≡ Err column)))
            → BlockFails names (s ∷ ss) column
        by (inl here) = any_told names s ss (StmtNode-F.Emit e) e column is refl here
        by (inr later) = absurd (cc (later.1.1))
    layer_fails (StmtNode-F.Fail e) s is names ss column ends =
        by (then_stops (expect type.Text e names) (λ t. Ok names) column (sym (names_by names s (StmtNode-F.Fail e) is) ∙ ends))
      where
        by : (expect type.Text e names ≡ Err column) ⊎ ((t : ItemType) × ((expect type.Text e names ≡ Ok t) × (Ok names ≡ Err column)))
            → BlockFails names (s ∷ ss) column
        by (inl here) = expected_told names s ss (StmtNode-F.Fail e) type.Text e column is refl here
        by (inr later) = absurd (cc (later.1.1))
    layer_fails (StmtNode-F.If e xs None) s is names ss column ends =
        if_fails names s ss e (map hS xs) None column is (order_fails xs names column) (λ bad. absurd (cc))
        (sym (names_by names s (layer (StmtNode-F.If e xs None)) is) ∙ ends)
    layer_fails (StmtNode-F.If e xs (Some zs)) s is names ss column ends =
        if_fails names s ss e (map hS xs) (Some (map hS zs)) column is (order_fails xs names column) (order_fails zs names column)
        (sym (names_by names s (layer (StmtNode-F.If e xs (Some zs))) is) ∙ ends)
    layer_fails (StmtNode-F.For x e xs) s is names ss column ends =
        for_fails names s ss x e (map hS xs) column is (order_fails xs (names ++ (x, type.Text) ∷ []) column)
        (sym (names_by names s (layer (StmtNode-F.For x e xs)) is) ∙ ends)
    layer_fails (StmtNode-F.Write k key word es) s is names ss column ends =
        operands_told names s ss (StmtNode-F.Write k key word es) column is
        (sym (first_and_more names key (column_of key) refl type.Text (written_type k) es names)
        ∙ ap fault_of (sym (names_by names s (StmtNode-F.Write k key word es) is) ∙ ends))

-- each statement that has this node
abbrev NodeSound : StmtNode → Type 0
NodeSound n = (s : Stmt) → (out-Stmt s).node ≡ n → StmtSound s

-- by induction over statements
stmt_fails : (s : Stmt) → StmtSound s
stmt_fails = ind-Stmt NodeSound StmtSound
    (λ x y is s at. layer_fails (λ c. c.0) (λ c. c.1) (λ c. c.0) y s (ap out-StmtNode at ∙ out-roll-StmtNode x ∙ sym is))
    (λ x y is. (subst (λ z. NodeSound z.node) is y.node.1) (roll-Stmt x) (ap (λ z. z.node) (out-roll-Stmt x)))

-- a list is itself, each item as it is
same_list : (ss : List Stmt) → map (λ s. s) ss ≡ ss
same_list [] = refl
same_list (s ∷ ss) = ap (λ rest. s ∷ rest) (same_list ss)

block_fails : (names : Names) (ss : List Stmt) (column : ℕ) → in_order (map names_after ss) names ≡ Err column → BlockFails names ss column
block_fails names ss column e =
    subst (λ xs. BlockFails names xs column) (same_list ss)
    (order_fails (λ (s : Stmt). s) stmt_fails ss names column (ap (λ xs. in_order (map names_after xs) names) (same_list ss) ∙ e))

-- ---- and back

-- operands of which the loop tells a column make their statement fail there
operands_stop : (names : Names) (s : Stmt) (n : StmtNode-F StmtNode Stmt) (column : ℕ) → step_of s ≡ n
    → fault (go_all names (operands_in n)) ≡ Some column → names_after s names ≡ Err column
operands_stop names s n column is ends = names_by names s n is ∙ by n ends
  where
    any_stop : (e : Expr) (f : ItemType → Judged Names) → fault (go_all names (any e ∷ [])) ≡ Some column → and_then (type_of e names) f ≡ Err column
    any_stop e f ends = step (type_of e names) ends
      where
        step : (r : Judged ItemType) → fault (and_then r (λ own. Ok None)) ≡ Some column → and_then r f ≡ Err column
        step (Ok own) ends = absurd (cc)
        step (Err other) ends = cc

    wanted_stop : (wanted : ItemType) (e : Expr) (f : ItemType → Judged Names) → fault (go_all names (of_type wanted e ∷ [])) ≡ Some column
        → and_then (expect wanted e names) f ≡ Err column
    wanted_stop wanted e f ends = ap (λ r. and_then r f) (err_of (expect wanted e names) column (one_expected names wanted e ∙ ends))

    by : (n : StmtNode-F StmtNode Stmt) → fault (go_all names (operands_in n)) ≡ Some column → judge_step (deep_step n) names ≡ Err column
    by (StmtNode-F.Let x e) ends = any_stop e (λ t. Ok (names ++ (x, t) ∷ [])) ends
    by (StmtNode-F.Emit e) ends = any_stop e (λ t. Ok names) ends
    by (StmtNode-F.Fail e) ends = wanted_stop type.Text e (λ t. Ok names) ends
    by (StmtNode-F.If e xs None) ends =
        wanted_stop type.Bool e (λ t. and_then (block (map names_after xs) names) (λ t. Ok names)) ends
    by (StmtNode-F.If e xs (Some zs)) ends =
        wanted_stop type.Bool e (λ t. and_then (block (map names_after xs) names) (λ t. block (map names_after zs) names)) ends
    by (StmtNode-F.For x e xs) ends =
        wanted_stop type.Texts e (λ t. and_then (in_order (map names_after xs) (names ++ (x, type.Text) ∷ [])) (λ t. Ok names)) ends
    by (StmtNode-F.Write k key word es) ends =
        err_of (judge_write k key es names) column (first_and_more names key (column_of key) refl type.Text (written_type k) es names ∙ ends)

-- a statement in front stops the statements
here_stops : (names : Names) (s : Stmt) (ss : List Stmt) (column : ℕ) → names_after s names ≡ Err column
    → in_order (map names_after (s ∷ ss)) names ≡ Err column
here_stops names s ss column e = ap (λ r. and_then r (in_order (map names_after ss))) e

-- a block whose statements stop stops
stops_block : (names : Names) (ss : List Stmt) (column : ℕ) → in_order (map names_after ss) names ≡ Err column
    → block (map names_after ss) names ≡ Err column
stops_block names ss column e = ap (λ r. and_then r (λ t. Ok names)) e

-- a block that is well typed ends
ends_block : (names : Names) (ss : List Stmt) → AreTyped names ss → block (map names_after ss) names ≡ Ok names
ends_block names ss typed = let ends = order_found names ss typed in ap (λ r. and_then r (λ t. Ok names)) ends.1

-- a conditional, layer by layer
if_is : (names : Names) (s : Stmt) (e : Expr) (inner : List Stmt) (other : Option (List Stmt)) → step_of s ≡ StmtNode-F.If e inner other
    → names_after s names
    ≡ and_then (expect type.Bool e names)
    (λ t. and_then (block (map names_after inner) names) (λ t. block (map names_after (else_of other)) names))
if_is names s e inner None is = names_by names s (StmtNode-F.If e inner None) is
if_is names s e inner (Some zs) is = names_by names s (StmtNode-F.If e inner (Some zs)) is

-- what binds leaves those names
binds_next : (names next : Names) (s : Stmt) → Binds names s next → names_after s names ≡ Ok next
binds_next names _ s (Binds.one x e t is h) =
    names_by names s (StmtNode-F.Let x e) is ∙ ap (λ r. and_then r (λ t. Ok (names ++ (x, t) ∷ []))) (found names e t h)
binds_next names _ s (Binds.none binds_none well) = by (names_after s names) refl (order_found names (s ∷ []) well)
  where
    as_before : (next : Names) → names_after s names ≡ Ok next → Binds names s next → names_after s names ≡ Ok names
    as_before _ is (Binds.one x e t step h) = absurd (binds_none x e step)
    as_before _ is (Binds.none _ _) = is

    by : (r : Judged Names) → names_after s names ≡ r → Ends names (s ∷ []) → names_after s names ≡ Ok names
    by (Ok next) is ends = as_before next is (binds names next s is)
    by (Err column) is ends = absurd (cc (sym (ap (λ r. and_then r (in_order [])) is) ∙ ends.1))

block_told : (names : Names) (ss : List Stmt) (column : ℕ) → BlockFails names ss column → in_order (map names_after ss) names ≡ Err column
block_told _ _ _ (BlockFails.inside names s ss column before after here split typed fails) =
    here_stops names s ss column (operands_stop names s (step_of s) column refl
    (ap (λ all. fault (go_all names all)) split
    ∙ ap fault (all_stop_there names before after here column typed (expr_told names here.operand column fails))))
block_told _ _ _ (BlockFails.unsuited names s ss column is) =
    here_stops names s ss column (operands_stop names s (step_of s) column refl (ap fault (all_told_there names (operands_in (step_of s)) column is)))
block_told _ _ _ (BlockFails.then_do names s ss inner other e column is cond fails) =
    here_stops names s ss column (if_is names s e inner other is
    ∙ ap (λ r. and_then r (λ t. and_then (block (map names_after inner) names) (λ t. block (map names_after (else_of other)) names)))
    (expect_passes names type.Bool e cond)
    ∙ ap (λ r. and_then r (λ t. block (map names_after (else_of other)) names)) (stops_block names inner column (block_told names inner column fails)))
block_told _ _ _ (BlockFails.else_do names s ss inner other e column is cond typed fails) =
    here_stops names s ss column (if_is names s e inner other is
    ∙ ap (λ r. and_then r (λ t. and_then (block (map names_after inner) names) (λ t. block (map names_after (else_of other)) names)))
    (expect_passes names type.Bool e cond)
    ∙ ap (λ r. and_then r (λ t. block (map names_after (else_of other)) names)) (ends_block names inner typed)
    ∙ stops_block names (else_of other) column (block_told names (else_of other) column fails))
block_told _ _ _ (BlockFails.turns names s ss inner x e column is over fails) =
    here_stops names s ss column (names_by names s (StmtNode-F.For x e inner) is
    ∙ ap (λ r. and_then r (λ t. and_then (in_order (map names_after inner) (names ++ (x, type.Text) ∷ [])) (λ t. Ok names)))
    (expect_passes names type.Texts e over)
    ∙ ap (λ r. and_then r (λ t. Ok names)) (block_told (names ++ (x, type.Text) ∷ []) inner column fails))
block_told _ _ _ (BlockFails.behind names next s ss column bound fails) =
    ap (λ r. and_then r (in_order (map names_after ss))) (binds_next names next s bound) ∙ block_told next ss column fails

pub type_errors_are_first : TypeErrorsAreFirst
type_errors_are_first b column = (block_fails [] b.stmts column, block_told [] b.stmts column)
