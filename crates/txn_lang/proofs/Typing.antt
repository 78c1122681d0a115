-- The checker against the rules of typing.
use Rattle.std.proofs.Common.{◌≡◌, ◌≤◌, arith, ℕ, zero, suc, Bool, true, false, cond, List, [], ◌∷◌, ◌++◌, map, length}
use Rattle.std.proofs.Common.{take, append_assoc, Option, Some, None, Result, Ok, Err, refl, ap, sym, ◌∙◌, subst}
use Rattle.std.specs.List.{slice_get}
use Rattle.plain_data.specs.Texts.{Bytes}
use Rattle.std.specs.Option.{unwrap_or, option_or}
use Rattle.std.proofs.Math.Seq.{take-append_seam}
use Rattle.std.proofs.lemmas.List.{append-nil, length-append, take-take}
use Rattle.txn_trees.specs.declared.word.Operator.{Operator}
use Rattle.txn_trees.specs.declared.word.Operator.TheVariants as operator
use Rattle.txn_trees.specs.declared.expression.Expr.{Expr, out-Expr, roll-Expr}
use Rattle.txn_trees.specs.declared.expression.Operand.{Operand}
use Rattle.txn_trees.specs.declared.expression.ExprNode.{ExprNode, out-ExprNode, map-ExprNode}
use Rattle.txn_trees.specs.declared.expression.ExprNode.TheOpen.{ExprNode-F}
use Rattle.txn_trees.specs.declared.expression.ExprNode.TheFolds.{fold-ExprNode, fold_out-Expr, fold_out-ExprNode, fold_out-Operand, ind-Expr}
use Rattle.txn_trees.specs.declared.expression.ExprNode.TheViews.{out-roll-ExprNode, out-roll-Expr, out-roll-Operand}
use Rattle.txn_trees.specs.declared.statement.Stmt.{Stmt, out-Stmt, roll-Stmt}
use Rattle.txn_trees.specs.declared.statement.StmtNode.{StmtNode, out-StmtNode, map-StmtNode}
use Rattle.txn_trees.specs.declared.statement.StmtNode.TheOpen.{StmtNode-F}
use Rattle.txn_trees.specs.declared.statement.StmtNode.TheFolds.{fold-StmtNode, fold_out-Stmt, fold_out-StmtNode, ind-Stmt}
use Rattle.txn_trees.specs.declared.statement.StmtNode.TheViews.{out-roll-StmtNode, out-roll-Stmt}
use Rattle.txn_trees.specs.declared.statement.Body.{Body}
use Rattle.txn_grammar.specs.Trees.{column_of}
use Rattle.txn_lang.specs.declared.item_type.Type.{«Type» as ItemType}
use Rattle.txn_lang.specs.declared.item_type.Type.TheVariants as type
use Rattle.txn_lang.specs.Types.{Names, type_bound, same, has_length, may_compare, takes, may_begin, written_type, asked_type, answered_type}
use Rattle.txn_lang.specs.Typing.{HasType, number, text, bool, name, texts, shown, negative, negation, comparison}
use Rattle.txn_lang.specs.Typing.{chain, read, AreTyped, none, bind, emit, fail, branch, turns, write, IsTyped, Judged}
use Rattle.txn_lang.specs.Typing.{and_then, unless, told, Typed, all_of, fits, operands_of, may_be_first, named}
use Rattle.txn_lang.specs.Typing.{judge_node, judge_expr, judge_operand, typed, judged_operand, type_of, expect}
use Rattle.txn_lang.specs.Typing.{in_order, block, turn, judge_write, judge_step, judge_stmt, names_after, judge}
use Rattle.txn_lang.specs.Typing.{node_of, step_of, operator_of, value_of, else_of, TypesAreFound}
use Rattle.txn_lang.specs.Typing.{BodiesAreJudged}
use Rattle.txn_lang.specs.Typing as rule
use Rattle.txn_lang.specs.code.Checking.{Leaves}
use Rattle.plain_data.specs.declared.or_no_memory.OrNoMemory.{OrNoMemory}
use Rattle.plain_data.specs.declared.or_no_memory.OrNoMemory.TheVariants.{Cause}
use Rattle.std.specs.Result.{MatchResult}

-- ---- small steps, backwards

-- what went well went well in both parts
pub then_ok : {A B : Type 0} (r : Judged A) (f : A → Judged B) (b : B) → and_then r f ≡ Ok b → (a : A) × ((r ≡ Ok a) × (f a ≡ Ok b))
then_ok (Ok a) f b e = (a, (refl, e))
then_ok (Err column) f b e = absurd (cc)

-- what went well had no complaint, and gives what was to be given
told_ok : {A : Type 0} (complaint : Option ℕ) (a b : A) → told complaint a ≡ Ok b → (complaint ≡ None) × (a ≡ b)
told_ok None a b e = (refl, cc)
told_ok (Some column) a b e = absurd (cc)

-- there is no complaint only where it holds
unless_none : (holds : Bool) (column : ℕ) → unless holds column ≡ None → holds ≡ true
unless_none true column e = refl
unless_none false column e = absurd (cc)

-- there is no first complaint only where neither side has one
or_none : (a b : Option ℕ) → option_or a b ≡ None → (a ≡ None) × (b ≡ None)
or_none None b e = (refl, e)
or_none (Some column) b e = absurd (cc)

-- types that pass the test are one
same_is : (t u : ItemType) → same t u ≡ true → t ≡ u
same_is type.Int type.Int e = refl
same_is type.Bool type.Bool e = refl
same_is type.Text type.Text e = refl
same_is type.Texts type.Texts e = refl
same_is _ _ e = absurd (cc)

-- each type passes the test with itself
same_self : (t : ItemType) → same t t ≡ true
same_self type.Int = refl
same_self type.Bool = refl
same_self type.Text = refl
same_self type.Texts = refl

-- a name has a type only where it is bound, and it is that one
named_is : (column : ℕ) (bound : Option ItemType) (t : ItemType) → named column bound ≡ Ok t → bound ≡ Some t
named_is column (Some u) t e = cc
named_is column None t e = absurd (cc)

-- an operand of a chain fits where it is of the chain's type and the operator takes that
fits_is : (o : Operator) (t u : ItemType) → fits o t u ≡ true → (u ≡ t) × (takes o t ≡ true)
fits_is o t u e = by_same (same u t) (same_is u t) e
  where
    by_same : (b : Bool) → (b ≡ true → u ≡ t) → cond b (takes o t) false ≡ true → (u ≡ t) × (takes o t ≡ true)
    by_same true is e = (is refl, e)
    by_same false is e = absurd (cc)

-- ---- one layer of the checker

-- a node, with what the checker makes of the expressions in it
abbrev pub deep : ExprNode-F ExprNode Expr Operand → ExprNode-F (ℕ → Names → Judged ItemType) Typed (Operator × Typed)
deep =
    map-ExprNode ExprNode Expr Operand (ℕ → Names → Judged ItemType) Typed (Operator × Typed)
    (fold-ExprNode (ℕ → Names → Judged ItemType) Typed (Operator × Typed) judge_node judge_expr judge_operand) typed
    judged_operand

-- an expression is judged by what it is
pub typed_is : (e : Expr) → typed e ≡ record { column = column_of e; judged = judge_node (deep (node_of e)) (column_of e) }
typed_is e =
    fold_out-Expr (ℕ → Names → Judged ItemType) Typed (Operator × Typed) judge_node judge_expr judge_operand e
    ∙ ap (λ (n : ℕ → Names → Judged ItemType). record { column = column_of e; judged = n (column_of e) })
    (fold_out-ExprNode (ℕ → Names → Judged ItemType) Typed (Operator × Typed) judge_node judge_expr judge_operand (out-Expr e).node)

-- an operand is judged by its operator and its value: the equation of the fold
pub operand_is : (o : Operand) → judged_operand o ≡ (operator_of o, typed (value_of o))
operand_is o = fold_out-Operand (ℕ → Names → Judged ItemType) Typed (Operator × Typed) judge_node judge_expr judge_operand o

-- an expression's type is what its layer makes of the types in it
pub type_by : (names : Names) (e : Expr) (n : ExprNode-F ExprNode Expr Operand) → node_of e ≡ n → type_of e names ≡ judge_node (deep n) (column_of e) names
type_by names e n is = ap (λ (t : Typed). t.judged names) (typed_is e) ∙ ap (λ n. judge_node (deep n) (column_of e) names) is

-- ---- what the checker finds is a type

-- a fact of a list's first item and of those behind it, by their places
first_or_later : {A : Type 0} (P : A → Type 0) (a : A) (more : List A) → P a → ((i : ℕ) (b : A) → slice_get more i ≡ Some b → P b)
    → (i : ℕ) (b : A) → slice_get (a ∷ more) i ≡ Some b → P b
first_or_later P a more here later zero b is = let same : a ≡ b = cc in subst P same here
first_or_later P a more here later (suc i) b is = later i b is

module _ (names : Names) where
  -- a type that the checker finds is the expression's type
  abbrev Sound : Expr → Type 0
  Sound e = (t : ItemType) → type_of e names ≡ Ok t → HasType names e t

  -- one layer: each child is some expression, by h, and what is found of it is its type
  module _ {N E O : Type 0} (hN : N → ExprNode) (hE : E → Expr) (hO : O → Operand)
      (exprs : (e : E) → Sound (hE e)) (operands : (o : O) → Sound (value_of (hO o))) where
    -- each expression has the type, by its place
    abbrev Each : ItemType → List E → Type 0
    Each wanted es = (i : ℕ) (a : Expr) → slice_get (map hE es) i ≡ Some a → HasType names a wanted

    -- expression by expression: without a complaint each has the type that is wanted
    each_sound : (wanted : ItemType) (complaint : Option ℕ) (es : List E) → all_of wanted complaint (map typed (map hE es)) names ≡ Ok None
        → (complaint ≡ None) × Each wanted es
    each_sound wanted complaint [] e = (cc, λ i a there. absurd (cc))
    each_sound wanted complaint (x ∷ es) e =
        let s =
        then_ok (type_of (hE x) names)
        (λ t. all_of wanted (option_or complaint (unless (same t wanted) (typed (hE x)).column)) (map typed (map hE es))
        names) None e in
        let r = each_sound wanted (option_or complaint (unless (same s.0 wanted) (typed (hE x)).column)) es s.1.1 in
        let none_yet = or_none complaint (unless (same s.0 wanted) (typed (hE x)).column) r.0 in
        let is = same_is s.0 wanted (unless_none (same s.0 wanted) (typed (hE x)).column none_yet.1) in
        (none_yet.0, first_or_later (λ a. HasType names a wanted) (hE x) (map hE es) (subst (λ t. HasType names (hE x) t) is (exprs x s.0 s.1.0)) r.1)

    -- each operator takes the type, and each operand has it, by its place
    abbrev EachOperand : ItemType → List O → Type 0
    EachOperand t os =
        ((i : ℕ) (o : Operand) → slice_get (map hO os) i ≡ Some o → takes (operator_of o) t ≡ true)
        × ((i : ℕ) (o : Operand) → slice_get (map hO os) i ≡ Some o → HasType names (value_of o) t)

    -- operand by operand: without a complaint each has the type of the chain, and its operator takes that
    operands_sound : (t : ItemType) (complaint : Option ℕ) (os : List O) → operands_of t complaint (map judged_operand (map hO os)) names ≡ Ok None
        → (complaint ≡ None) × EachOperand t os
    operands_sound t complaint [] e = (cc, (λ i a there. absurd (cc), λ i a there. absurd (cc)))
    operands_sound t complaint (o ∷ os) e =
        let p = judged_operand (hO o) in
        let s =
        then_ok (p.1.judged names) (λ u. operands_of t (option_or complaint (unless (fits p.0 t u) p.1.column))
        (map judged_operand (map hO os)) names) None e in
        let r = operands_sound t (option_or complaint (unless (fits p.0 t s.0) p.1.column)) os s.1.1 in
        let none_yet = or_none complaint (unless (fits p.0 t s.0) p.1.column) r.0 in
        let fit = fits_is p.0 t s.0 (unless_none (fits p.0 t s.0) p.1.column none_yet.1) in
        let found : type_of (value_of (hO o)) names ≡ Ok s.0 = sym (ap (λ (q : Operator × Typed). q.1.judged names) (operand_is (hO o))) ∙ s.1.0 in (
          none_yet.0,
          (
            first_or_later (λ q. takes (operator_of q) t ≡ true) (hO o) (map hO os)
                (subst (λ (q : Operator × Typed). takes q.0 t ≡ true) (operand_is (hO o)) fit.1) r.1.0,
            first_or_later (λ q. HasType names (value_of q) t) (hO o) (map hO os)
                (subst (λ u. HasType names (value_of (hO o)) u) fit.0 (operands o s.0 found)) r.1.1,
          ),
        )

    -- the node with those expressions in it
    abbrev layer : ExprNode-F N E O → ExprNode-F ExprNode Expr Operand
    layer = map-ExprNode N E O ExprNode Expr Operand hN hE hO

    -- what is found of an expression is what the checker makes of its layer
    judged_layer : (y : ExprNode-F N E O) (e : Expr) → node_of e ≡ layer y → (t : ItemType) → type_of e names ≡ Ok t
        → judge_node (deep (layer y)) (column_of e) names ≡ Ok t
    judged_layer y e is t ok = sym (type_by names e (layer y) is) ∙ ok

    -- a node whose one operand has to be of a type
    one_sound : (wanted given : ItemType) (a : E) (t : ItemType)
        → and_then (type_of (hE a) names) (λ u. told (unless (same u wanted) (typed (hE a)).column) given) ≡ Ok t
        → HasType names (hE a) wanted × (given ≡ t)
    one_sound wanted given a t e =
        let s = then_ok (type_of (hE a) names) (λ u. told (unless (same u wanted) (typed (hE a)).column) given) t e in
        let r = told_ok (unless (same s.0 wanted) (typed (hE a)).column) given t s.1.1 in
        let is = same_is s.0 wanted (unless_none (same s.0 wanted) (typed (hE a)).column r.0) in
        (subst (λ u. HasType names (hE a) u) is (exprs a s.0 s.1.0), r.1)

    -- form by form: what went well in the checker is what the form's rule asks
    layer_sound : (y : ExprNode-F N E O) (e : Expr) → node_of e ≡ layer y → Sound e
    layer_sound (ExprNode-F.Number n) e is t ok =
        let j : type.Int ≡ t = cc (judged_layer (ExprNode-F.Number n) e is t ok) in
        subst (λ t. HasType names e t) j (number e n is)
    layer_sound (ExprNode-F.Text z) e is t ok =
        let j : type.Text ≡ t = cc (judged_layer (ExprNode-F.Text z) e is t ok) in subst (λ t. HasType names e t) j (text e z is)
    layer_sound (ExprNode-F.Bool b) e is t ok =
        let j : type.Bool ≡ t = cc (judged_layer (ExprNode-F.Bool b) e is t ok) in subst (λ t. HasType names e t) j (bool e b is)
    layer_sound (ExprNode-F.Name x) e is t ok = name e x t is (named_is (column_of e) (type_bound names x) t (judged_layer (ExprNode-F.Name x) e is t ok))
    layer_sound (ExprNode-F.Texts es) e is t ok =
        let s = then_ok (all_of type.Text None (map typed (map hE es)) names) (λ c. told c type.Texts) t (judged_layer (ExprNode-F.Texts es) e is t ok) in
        let r = told_ok s.0 type.Texts t s.1.1 in
        subst (λ t. HasType names e t) r.1 (texts e (map hE es) is (each_sound type.Text None es (s.1.0 ∙ ap (λ c. Ok c) r.0)).1)
    layer_sound (ExprNode-F.Len a) e is t ok =
        let s =
        then_ok (type_of (hE a) names) (λ u. told (unless (has_length u) (typed (hE a)).column) type.Int) t
        (judged_layer (ExprNode-F.Len a) e is t ok) in
        let r = told_ok (unless (has_length s.0) (typed (hE a)).column) type.Int t s.1.1 in
        subst (λ t. HasType names e t) r.1 (rule.length e (hE a) s.0 is (exprs a s.0 s.1.0) (unless_none (has_length s.0) (typed (hE a)).column r.0))
    layer_sound (ExprNode-F.Str a) e is t ok =
        let s = one_sound type.Int type.Text a t (judged_layer (ExprNode-F.Str a) e is t ok) in
        subst (λ t. HasType names e t) s.1 (shown e (hE a) is s.0)
    layer_sound (ExprNode-F.Negative a) e is t ok =
        let s = one_sound type.Int type.Int a t (judged_layer (ExprNode-F.Negative a) e is t ok) in
        subst (λ t. HasType names e t) s.1 (negative e (hE a) is s.0)
    layer_sound (ExprNode-F.Not a) e is t ok =
        let s = one_sound type.Bool type.Bool a t (judged_layer (ExprNode-F.Not a) e is t ok) in
        subst (λ t. HasType names e t) s.1 (negation e (hE a) is s.0)
    layer_sound (ExprNode-F.Compare a r b) e is t ok =
        let ca = (typed (hE a)).column in
        let cb = (typed (hE b)).column in
        let s =
        then_ok (type_of (hE a) names)
        (λ u. and_then (type_of (hE b) names)
        (λ v. told (option_or (unless (may_compare r u) ca) (unless (same v u) cb)) type.Bool)) t
        (judged_layer (ExprNode-F.Compare a r b) e is t ok) in
        let z = then_ok (type_of (hE b) names) (λ v. told (option_or (unless (may_compare r s.0) ca) (unless (same v s.0) cb)) type.Bool) t s.1.1 in
        let q = told_ok (option_or (unless (may_compare r s.0) ca) (unless (same z.0 s.0) cb)) type.Bool t z.1.1 in
        let both = or_none (unless (may_compare r s.0) ca) (unless (same z.0 s.0) cb) q.0 in
        let one = same_is z.0 s.0 (unless_none (same z.0 s.0) cb both.1) in
        subst (λ t. HasType names e t) q.1
        (comparison e (hE a) (hE b) r s.0 is (exprs a s.0 s.1.0) (unless_none (may_compare r s.0) ca both.0)
        (subst (λ u. HasType names (hE b) u) one (exprs b z.0 z.1.0)))
    layer_sound (ExprNode-F.Chain a os) e is t ok =
        let first = λ (u : ItemType). unless (may_be_first u (map judged_operand (map hO os))) (typed (hE a)).column in
        let s =
        then_ok (type_of (hE a) names)
        (λ u. and_then (operands_of u (first u) (map judged_operand (map hO os)) names) (λ c. told c u)) t
        (judged_layer (ExprNode-F.Chain a os) e is t ok) in
        let z = then_ok (operands_of s.0 (first s.0) (map judged_operand (map hO os)) names) (λ c. told c s.0) t s.1.1 in
        let q = told_ok z.0 s.0 t z.1.1 in
        let r = operands_sound s.0 (first s.0) os (z.1.0 ∙ ap (λ c. Ok c) q.0) in
        subst (λ t. HasType names e t) q.1 (chain e (hE a) (map hO os) s.0 is (exprs a s.0 s.1.0) r.1.0 r.1.1)
    layer_sound (ExprNode-F.Read k key word es) e is t ok =
        let first = λ (u : ItemType). unless (same u type.Text) (typed (hE key)).column in
        let s =
        then_ok (type_of (hE key) names)
        (λ u. and_then (all_of (asked_type word) (first u) (map typed (map hE es)) names)
        (λ c. told c (answered_type k word))) t (judged_layer (ExprNode-F.Read k key word es) e is t ok) in
        let z = then_ok (all_of (asked_type word) (first s.0) (map typed (map hE es)) names) (λ c. told c (answered_type k word)) t s.1.1 in
        let q = told_ok z.0 (answered_type k word) t z.1.1 in
        let r = each_sound (asked_type word) (first s.0) es (z.1.0 ∙ ap (λ c. Ok c) q.0) in
        let key_text = same_is s.0 type.Text (unless_none (same s.0 type.Text) (typed (hE key)).column r.0) in
        subst (λ t. HasType names e t) q.1 (read e (hE key) k word (map hE es) is (subst (λ u. HasType names (hE key) u) key_text (exprs key s.0 s.1.0)) r.1)

  -- each expression that has this node is sound
  abbrev NodeSound : ExprNode → Type 0
  NodeSound n = (e : Expr) → (out-Expr e).node ≡ n → Sound e

  -- by induction over expressions: a layer is sound where the expressions in it are
  type_sound : (e : Expr) → Sound e
  type_sound = ind-Expr NodeSound Sound (λ o. Sound (value_of o))
      (λ x y is e at. layer_sound (λ c. c.0) (λ c. c.0) (λ c. c.0) (λ c. c.1) (λ c. c.1) y e (ap out-ExprNode at ∙ out-roll-ExprNode x ∙ sym is))
      (λ x y is. (subst (λ z. NodeSound z.node) is y.node.1) (roll-Expr x) (ap (λ z. z.node) (out-roll-Expr x)))
      (λ x y is. subst (λ z. Sound z.value) (is ∙ sym (out-roll-Operand x)) y.value.1)

-- ---- what has a type is found

-- a step that went well hands on what it gave
then_found : {A B : Type 0} (r : Judged A) (a : A) (f : A → Judged B) → r ≡ Ok a → and_then r f ≡ f a
then_found r a f e = ap (λ r. and_then r f) e

-- what an operator takes may stand before it; only a minus lets more stand there
begins_if : (o : Operator) (t : ItemType) → takes o t ≡ true → may_begin o t ≡ true
begins_if operator.Minus type.Int e = refl
begins_if operator.Minus type.Text e = refl
begins_if operator.Minus _ e = absurd (cc)
begins_if _ t e = e

module _ (names : Names) where
  -- expression by expression: each has the type that is wanted, so none makes a complaint
  all_found : (wanted : ItemType) (es : List Expr) → ((i : ℕ) (a : Expr) → slice_get es i ≡ Some a → type_of a names ≡ Ok wanted)
      → all_of wanted None (map typed es) names ≡ Ok None
  all_found wanted [] h = refl
  all_found wanted (e ∷ es) h =
      then_found (type_of e names) wanted (λ t. all_of wanted (option_or None (unless (same t wanted) (typed e).column)) (map typed es) names) (h zero e refl)
      ∙ ap (λ b. all_of wanted (unless b (typed e).column) (map typed es) names) (same_self wanted)
      ∙ all_found wanted es (λ i. h (suc i))

  -- operand by operand: each has the type of the chain, and its operator takes that
  operands_found : (t : ItemType) (os : List Operand)
      → ((i : ℕ) (o : Operand) → slice_get os i ≡ Some o → takes (operator_of o) t ≡ true)
      → ((i : ℕ) (o : Operand) → slice_get os i ≡ Some o → type_of (value_of o) names ≡ Ok t)
      → operands_of t None (map judged_operand os) names ≡ Ok None
  operands_found t [] h k = refl
  operands_found t (o ∷ os) h k =
      let p = judged_operand o in
      let found : p.1.judged names ≡ Ok t = ap (λ (q : Operator × Typed). q.1.judged names) (operand_is o) ∙ k zero o refl in
      let fit : fits p.0 t t ≡ true = ap (λ b. cond b (takes p.0 t) false) (same_self t)
      ∙ ap (λ (q : Operator × Typed). takes q.0 t) (operand_is o) ∙ h zero o refl in
      then_found (p.1.judged names) t (λ u. operands_of t (option_or None (unless (fits p.0 t u) p.1.column)) (map judged_operand os) names) found
      ∙ ap (λ b. operands_of t (unless b p.1.column) (map judged_operand os) names) fit
      ∙ operands_found t os (λ i. h (suc i)) (λ i. k (suc i))

  -- the first operator takes the type of the chain, so that may stand before it
  first_found : (t : ItemType) (os : List Operand) → ((i : ℕ) (o : Operand) → slice_get os i ≡ Some o → takes (operator_of o) t ≡ true)
      → may_be_first t (map judged_operand os) ≡ true
  first_found t [] h = refl
  first_found t (o ∷ os) h = ap (λ (q : Operator × Typed). may_begin q.0 t) (operand_is o) ∙ begins_if (operator_of o) t (h zero o refl)

  -- an operand whose type passes its test gives what the node gives
  one_found : (a : Expr) (t given : ItemType) (test : ItemType → Bool) → type_of a names ≡ Ok t → test t ≡ true
      → and_then (type_of a names) (λ u. told (unless (test u) (typed a).column) given) ≡ Ok given
  one_found a t given test found passes =
      then_found (type_of a names) t (λ u. told (unless (test u) (typed a).column) given) found ∙ ap (λ b. told (unless b (typed a).column) given) passes

  -- rule by rule: the types in the layer are found, and what the rule asks of them passes the checker's tests
  type_found : (e : Expr) (t : ItemType) → HasType names e t → type_of e names ≡ Ok t
  type_found _ _ (number e n is) = type_by names e (ExprNode-F.Number n) is
  type_found _ _ (text e z is) = type_by names e (ExprNode-F.Text z) is
  type_found _ _ (bool e b is) = type_by names e (ExprNode-F.Bool b) is
  type_found _ _ (name e x t is bound) = type_by names e (ExprNode-F.Name x) is ∙ ap (named (column_of e)) bound
  type_found _ _ (texts e es is each) =
      type_by names e (ExprNode-F.Texts es) is
      ∙ ap (λ c. and_then c (λ c. told c type.Texts)) (all_found type.Text es (λ i a there. type_found a type.Text (each i a there)))
  type_found _ _ (rule.length e a t is h long) = type_by names e (ExprNode-F.Len a) is ∙ one_found a t type.Int has_length (type_found a t h) long
  type_found _ _ (shown e a is h) = type_by names e (ExprNode-F.Str a) is ∙ one_found a type.Int type.Text (λ t. same t type.Int) (type_found a type.Int h) refl
  type_found _ _ (negative e a is h) = type_by names e (ExprNode-F.Negative a) is
      ∙ one_found a type.Int type.Int (λ t. same t type.Int) (type_found a type.Int h) refl
  type_found _ _ (negation e a is h) = type_by names e (ExprNode-F.Not a) is
      ∙ one_found a type.Bool type.Bool (λ t. same t type.Bool) (type_found a type.Bool h) refl
  type_found _ _ (comparison e a b r t is h may k) =
      let ca = (typed a).column in
      let cb = (typed b).column in
      type_by names e (ExprNode-F.Compare a r b) is
      ∙ then_found (type_of a names) t
      (λ u. and_then (type_of b names) (λ v. told (option_or (unless (may_compare r u) ca) (unless (same v u) cb)) type.Bool))
      (type_found a t h)
      ∙ then_found (type_of b names) t (λ v. told (option_or (unless (may_compare r t) ca) (unless (same v t) cb)) type.Bool) (type_found b t k)
      ∙ ap (λ p. told (option_or (unless p ca) (unless (same t t) cb)) type.Bool) may
      ∙ ap (λ p. told (unless p cb) type.Bool) (same_self t)
  type_found _ _ (chain e a os t is h taken each) =
      let first = λ (u : ItemType). unless (may_be_first u (map judged_operand os)) (typed a).column in
      type_by names e (ExprNode-F.Chain a os) is
      ∙ then_found (type_of a names) t (λ u. and_then (operands_of u (first u) (map judged_operand os) names) (λ c. told c u)) (type_found a t h)
      ∙ ap (λ p. and_then (operands_of t (unless p (typed a).column) (map judged_operand os) names) (λ c. told c t)) (first_found t os taken)
      ∙ ap (λ c. and_then c (λ c. told c t)) (operands_found t os taken (λ i o there. type_found (value_of o) t (each i o there)))
  type_found _ _ (read e key k word es is h each) =
      let first = λ (u : ItemType). unless (same u type.Text) (typed key).column in
      type_by names e (ExprNode-F.Read k key word es) is
      ∙ then_found (type_of key names) type.Text
      (λ u. and_then (all_of (asked_type word) (first u) (map typed es) names) (λ c. told c (answered_type k word)))
      (type_found key type.Text h)
      ∙ ap (λ c. and_then c (λ c. told c (answered_type k word)))
      (all_found (asked_type word) es (λ i a there. type_found a (asked_type word) (each i a there)))

-- the checker finds no other types than the rules give, and finds each of them
pub types_are_found : TypesAreFound
types_are_found names e t = (type_sound names e t, type_found names e t)

-- ---- statements

-- a statement's node, with what the checker makes of the statements in it
abbrev pub deep_step : StmtNode-F StmtNode Stmt → StmtNode-F (Names → Judged Names) (Names → Judged Names)
deep_step =
    map-StmtNode StmtNode Stmt (Names → Judged Names) (Names → Judged Names)
    (fold-StmtNode (Names → Judged Names) (Names → Judged Names) judge_step judge_stmt) names_after

-- a statement is judged by what it is
pub names_by : (names : Names) (s : Stmt) (n : StmtNode-F StmtNode Stmt) → step_of s ≡ n → names_after s names ≡ judge_step (deep_step n) names
names_by names s n is =
    ap (λ f. f names) (fold_out-Stmt (Names → Judged Names) (Names → Judged Names) judge_step judge_stmt s
    ∙ fold_out-StmtNode (Names → Judged Names) (Names → Judged Names) judge_step judge_stmt (out-Stmt s).node)
    ∙ ap (λ n. judge_step (deep_step n) names) is

-- what the checker is told to expect is there
expect_sound : (wanted : ItemType) (e : Expr) (names : Names) (t : ItemType) → expect wanted e names ≡ Ok t → HasType names e wanted
expect_sound wanted e names t ok =
    let s = then_ok (type_of e names) (λ u. told (unless (same u wanted) (column_of e)) u) t ok in
    let r = told_ok (unless (same s.0 wanted) (column_of e)) s.0 t s.1.1 in
    subst (λ u. HasType names e u) (same_is s.0 wanted (unless_none (same s.0 wanted) (column_of e) r.0)) (type_sound names e s.0 s.1.0)

-- the type is found, and it passes the test with itself
expect_found : (wanted : ItemType) (e : Expr) (names : Names) → HasType names e wanted → expect wanted e names ≡ Ok wanted
expect_found wanted e names h =
    then_found (type_of e names) wanted (λ u. told (unless (same u wanted) (column_of e)) u) (type_found names e wanted h)
    ∙ ap (λ b. told (unless b (column_of e)) wanted) (same_self wanted)

-- if the checker leaves names behind it, and statements behind it are typed there, they are typed with it in front
abbrev pub StmtSound : Stmt → Type 0
StmtSound s = (names after : Names) (ss : List Stmt) → names_after s names ≡ Ok after → AreTyped after ss → AreTyped names (s ∷ ss)

-- expression by expression: without a complaint each has the type that is wanted
arguments_sound : (names : Names) (wanted : ItemType) (complaint : Option ℕ) (es : List Expr) → all_of wanted complaint (map typed es) names ≡ Ok None
    → (complaint ≡ None) × ((i : ℕ) (a : Expr) → slice_get es i ≡ Some a → HasType names a wanted)
arguments_sound names wanted complaint [] e = (cc, λ i a there. absurd (cc))
arguments_sound names wanted complaint (x ∷ es) e =
    let s = then_ok (type_of x names) (λ t. all_of wanted (option_or complaint (unless (same t wanted) (typed x).column)) (map typed es) names) None e in
    let r = arguments_sound names wanted (option_or complaint (unless (same s.0 wanted) (typed x).column)) es s.1.1 in
    let none_yet = or_none complaint (unless (same s.0 wanted) (typed x).column) r.0 in
    let is = same_is s.0 wanted (unless_none (same s.0 wanted) (typed x).column none_yet.1) in
    (none_yet.0, first_or_later (λ a. HasType names a wanted) x es (subst (λ t. HasType names x t) is (type_sound names x s.0 s.1.0)) r.1)

-- a block leaves the names as they are
block_is : (fs : List (Names → Judged Names)) (names after : Names) → block fs names ≡ Ok after → names ≡ after
block_is fs names after ok =
    let z = then_ok (in_order fs names) (λ t. Ok names) after ok in
    cc (z.1.1)

-- one layer: each statement in it is some statement, by h
module _ {N X : Type 0} (hN : N → StmtNode) (hS : X → Stmt) (stmts : (x : X) → StmtSound (hS x)) where
  -- the statement's node, with those statements in it
  abbrev step_layer : StmtNode-F N X → StmtNode-F StmtNode Stmt
  step_layer = map-StmtNode N X StmtNode Stmt hN hS

  -- statement by statement: each stands in front of those that are typed behind it
  order_sound : (xs : List X) (names after : Names) → in_order (map names_after (map hS xs)) names ≡ Ok after → AreTyped names (map hS xs)
  order_sound [] names after ok = none names
  order_sound (x ∷ xs) names after ok =
      let s = then_ok (names_after (hS x) names) (in_order (map names_after (map hS xs))) after ok in
      stmts x names s.0 (map hS xs) s.1.0 (order_sound xs s.0 after s.1.1)

  -- a block is judged as its statements in order, and forgets the names that they leave
  block_sound : (xs : List X) (names after : Names) → block (map names_after (map hS xs)) names ≡ Ok after → AreTyped names (map hS xs)
  block_sound xs names after ok =
      let z = then_ok (in_order (map names_after (map hS xs)) names) (λ t. Ok names) after ok in
      order_sound xs names z.0 z.1.0

  -- form by form: what went well in the checker is what the form's rule asks
  step_sound : (y : StmtNode-F N X) (s : Stmt) → step_of s ≡ step_layer y → StmtSound s
  step_sound (StmtNode-F.Let x e) s is names after ss ok more =
      let z = then_ok (type_of e names) (λ t. Ok (names ++ (x, t) ∷ [])) after (sym (names_by names s (StmtNode-F.Let x e) is) ∙ ok) in
      let same : names ++ (x, z.0) ∷ [] ≡ after = cc (z.1.1) in
      bind names s ss x e z.0 is (type_sound names e z.0 z.1.0) (subst (λ ns. AreTyped ns ss) (sym same) more)
  step_sound (StmtNode-F.Emit e) s is names after ss ok more =
      let z = then_ok (type_of e names) (λ t. Ok names) after (sym (names_by names s (StmtNode-F.Emit e) is) ∙ ok) in
      let same : names ≡ after = cc (z.1.1) in
      emit names s ss e z.0 is (type_sound names e z.0 z.1.0) (subst (λ ns. AreTyped ns ss) (sym same) more)
  step_sound (StmtNode-F.Fail e) s is names after ss ok more =
      let z = then_ok (expect type.Text e names) (λ t. Ok names) after (sym (names_by names s (StmtNode-F.Fail e) is) ∙ ok) in
      let same : names ≡ after = cc (z.1.1) in
      fail names s ss e is (expect_sound type.Text e names z.0 z.1.0) (subst (λ ns. AreTyped ns ss) (sym same) more)
  step_sound (StmtNode-F.If e xs None) s is names after ss ok more =
      let z =
      then_ok (expect type.Bool e names) (λ t. and_then (block (map names_after (map hS xs)) names) (λ t. Ok names)) after
      (sym (names_by names s (step_layer (StmtNode-F.If e xs None)) is) ∙ ok) in
      let q = then_ok (block (map names_after (map hS xs)) names) (λ t. Ok names) after z.1.1 in
      let same : names ≡ after = cc (q.1.1) in
      branch names s ss (map hS xs) None e is (expect_sound type.Bool e names z.0 z.1.0) (block_sound xs names q.0 q.1.0)
      (none names) (subst (λ ns. AreTyped ns ss) (sym same) more)
  step_sound (StmtNode-F.If e xs (Some zs)) s is names after ss ok more =
      let else_do = block (map names_after (map hS zs)) names in
      let z =
      then_ok (expect type.Bool e names) (λ t. and_then (block (map names_after (map hS xs)) names) (λ t. else_do)) after
      (sym (names_by names s (step_layer (StmtNode-F.If e xs (Some zs))) is) ∙ ok) in
      let q = then_ok (block (map names_after (map hS xs)) names) (λ t. else_do) after z.1.1 in
      branch names s ss (map hS xs) (Some (map hS zs)) e is (expect_sound type.Bool e names z.0 z.1.0)
      (block_sound xs names q.0 q.1.0) (block_sound zs names after q.1.1)
      (subst (λ ns. AreTyped ns ss) (sym (block_is (map names_after (map hS zs)) names after q.1.1)) more)
  step_sound (StmtNode-F.For x e xs) s is names after ss ok more =
      let j = sym (names_by names s (step_layer (StmtNode-F.For x e xs)) is) ∙ ok in
      let inner = names ++ (x, type.Text) ∷ [] in
      let z = then_ok (expect type.Texts e names) (λ t. and_then (in_order (map names_after (map hS xs)) inner) (λ t. Ok names)) after j in
      let q = then_ok (in_order (map names_after (map hS xs)) inner) (λ t. Ok names) after z.1.1 in
      let same : names ≡ after = cc (q.1.1) in
      turns names s ss (map hS xs) x e is (expect_sound type.Texts e names z.0 z.1.0) (order_sound xs inner q.0 q.1.0)
      (subst (λ ns. AreTyped ns ss) (sym same) more)
  step_sound (StmtNode-F.Write k key word es) s is names after ss ok more =
      let first = λ (u : ItemType). unless (same u type.Text) (column_of key) in
      let w = written_type k in
      let z =
      then_ok (type_of key names) (λ u. and_then (all_of w (first u) (map typed es) names) (λ c. told c names)) after
      (sym (names_by names s (StmtNode-F.Write k key word es) is) ∙ ok) in
      let q = then_ok (all_of w (first z.0) (map typed es) names) (λ c. told c names) after z.1.1 in
      let r = told_ok q.0 names after q.1.1 in
      let a = arguments_sound names w (first z.0) es (q.1.0 ∙ ap (λ c. Ok c) r.0) in
      let key_text = same_is z.0 type.Text (unless_none (same z.0 type.Text) (column_of key) a.0) in
      write names s ss k key word es is (subst (λ u. HasType names key u) key_text (type_sound names key z.0 z.1.0)) a.1
      (subst (λ ns. AreTyped ns ss) (sym r.1) more)

-- each statement that has this node is sound
abbrev NodeSound' : StmtNode → Type 0
NodeSound' n = (s : Stmt) → (out-Stmt s).node ≡ n → StmtSound s

-- by induction over statements: a layer is sound where the statements in it are
pub stmt_sound : (s : Stmt) → StmtSound s
stmt_sound = ind-Stmt NodeSound' StmtSound
    (λ x y is s at. step_sound (λ c. c.0) (λ c. c.0) (λ c. c.1) y s (ap out-StmtNode at ∙ out-roll-StmtNode x ∙ sym is))
    (λ x y is. (subst (λ z. NodeSound' z.node) is y.node.1) (roll-Stmt x) (ap (λ z. z.node) (out-roll-Stmt x)))

-- statement by statement: each is sound, so it stands in front of those that are typed behind it
pub body_sound : (ss : List Stmt) (names after : Names) → in_order (map names_after ss) names ≡ Ok after → AreTyped names ss
body_sound [] names after ok = none names
body_sound (s ∷ ss) names after ok =
    let z = then_ok (names_after s names) (in_order (map names_after ss)) after ok in
    stmt_sound s names z.0 ss z.1.0 (body_sound ss z.0 after z.1.1)

-- the checker comes to an end behind these statements
abbrev pub Ends : Names → List Stmt → Type 0
Ends names ss = (after : Names) × (in_order (map names_after ss) names ≡ Ok after)

-- one more statement in front, which leaves these names
one_more : (names next : Names) (s : Stmt) (ss : List Stmt) → names_after s names ≡ Ok next → Ends next ss → Ends names (s ∷ ss)
one_more names next s ss here rest = (rest.0, then_found (names_after s names) next (in_order (map names_after ss)) here ∙ rest.1)

-- a block ends where its statements do, and its names are those before it
block_found : (ss : List Stmt) (names : Names) → Ends names ss → block (map names_after ss) names ≡ Ok names
block_found ss names ends = then_found (in_order (map names_after ss) names) ends.0 (λ t. Ok names) ends.1

-- rule by rule: what the rule asks passes the checker's tests, and it goes on to the statements behind
pub order_found : (names : Names) (ss : List Stmt) → AreTyped names ss → Ends names ss
order_found _ _ (none names) = (names, refl)
order_found _ _ (bind names s ss x e t is h more) =
    one_more names (names ++ (x, t) ∷ []) s ss
    (names_by names s (StmtNode-F.Let x e) is
    ∙ then_found (type_of e names) t (λ t. Ok (names ++ (x, t) ∷ [])) (type_found names e t h))
    (order_found (names ++ (x, t) ∷ []) ss more)
order_found _ _ (emit names s ss e t is h more) =
    one_more names names s ss (names_by names s (StmtNode-F.Emit e) is
    ∙ then_found (type_of e names) t (λ t. Ok names) (type_found names e t h)) (order_found names ss more)
order_found _ _ (fail names s ss e is h more) =
    one_more names names s ss (names_by names s (StmtNode-F.Fail e) is
    ∙ then_found (expect type.Text e names) type.Text (λ t. Ok names) (expect_found type.Text e names h))
    (order_found names ss more)
order_found _ _ (branch names s ss xs None e is h inner other more) =
    one_more names names s ss
    (names_by names s (StmtNode-F.If e xs None) is
    ∙ then_found (expect type.Bool e names) type.Bool (λ t. and_then (block (map names_after xs) names) (λ t. Ok names)) (expect_found type.Bool e names h)
    ∙ then_found (block (map names_after xs) names) names (λ t. Ok names) (block_found xs names (order_found names xs inner)))
    (order_found names ss more)
order_found _ _ (branch names s ss xs (Some zs) e is h inner other more) =
    let else_do = block (map names_after zs) names in
    one_more names names s ss
    (names_by names s (StmtNode-F.If e xs (Some zs)) is
    ∙ then_found (expect type.Bool e names) type.Bool (λ t. and_then (block (map names_after xs) names) (λ t. else_do)) (expect_found type.Bool e names h)
    ∙ then_found (block (map names_after xs) names) names (λ t. else_do) (block_found xs names (order_found names xs inner))
    ∙ block_found zs names (order_found names zs other))
    (order_found names ss more)
order_found _ _ (turns names s ss inner x e is h block more) =
    let i = order_found (names ++ (x, type.Text) ∷ []) inner block in
    one_more names names s ss
    (names_by names s (StmtNode-F.For x e inner) is
    ∙ then_found (expect type.Texts e names) type.Texts
    (λ t. and_then (in_order (map names_after inner) (names ++ (x, type.Text) ∷ [])) (λ t. Ok names))
    (expect_found type.Texts e names h)
    ∙ then_found (in_order (map names_after inner) (names ++ (x, type.Text) ∷ [])) i.0 (λ t. Ok names) i.1)
    (order_found names ss more)
order_found _ _ (write names s ss k key word es is h each more) =
    let first = λ (u : ItemType). unless (same u type.Text) (column_of key) in
    let w = written_type k in
    one_more names names s ss
    (names_by names s (StmtNode-F.Write k key word es) is
    ∙ then_found (type_of key names) type.Text (λ u. and_then (all_of w (first u) (map typed es) names) (λ c. told c names)) (type_found names key type.Text h)
    ∙ ap (λ c. and_then c (λ c. told c names)) (all_found names w es (λ i a there. type_found names a w (each i a there))))
    (order_found names ss more)

-- the checker accepts no other bodies than the rules do, and accepts each of them
pub bodies_are_judged : BodiesAreJudged
bodies_are_judged b = (λ found. body_sound b.stmts [] found.0 found.1, order_found [] b.stmts)

-- ---- names that are bound

-- names, and perhaps more behind them
abbrev Extends : Names → Names → Type 0
Extends names after = (more : Names) × (after ≡ names ++ more)

-- names extend themselves by none
extends_self : (names after : Names) → names ≡ after → Extends names after
extends_self names after same = ([], sym same ∙ sym (append-nil names))

-- a `let` puts one name behind them, and all else leaves them as they are
step_extends : (y : StmtNode-F (Names → Judged Names) (Names → Judged Names)) (names after : Names) → judge_step y names ≡ Ok after → Extends names after
step_extends (StmtNode-F.Let x e) names after ok =
    let z = then_ok (type_of e names) (λ t. Ok (names ++ (x, t) ∷ [])) after ok in
    ((x, z.0) ∷ [], (let same : names ++ (x, z.0) ∷ [] ≡ after = cc (z.1.1) in sym same))
step_extends (StmtNode-F.Emit e) names after ok = extends_self names after (let z = then_ok (type_of e names) (λ t. Ok names) after ok in cc (z.1.1))
step_extends (StmtNode-F.Fail e) names after ok = extends_self names after (let z = then_ok (expect type.Text e names) (λ t. Ok names) after ok in cc (z.1.1))
step_extends (StmtNode-F.If e then_do else_do) names after ok =
    let other = block (unwrap_or else_do []) names in
    let z = then_ok (expect type.Bool e names) (λ t. and_then (block then_do names) (λ t. other)) after ok in
    let q = then_ok (block then_do names) (λ t. other) after z.1.1 in
    extends_self names after (block_is (unwrap_or else_do []) names after q.1.1)
step_extends (StmtNode-F.For x e inner) names after ok =
    let turn = in_order inner (names ++ (x, type.Text) ∷ []) in
    let z = then_ok (expect type.Texts e names) (λ t. and_then turn (λ t. Ok names)) after ok in
    let q = then_ok turn (λ t. Ok names) after z.1.1 in
    extends_self names after (cc (q.1.1))
step_extends (StmtNode-F.Write k key word es) names after ok =
    let w = written_type k in
    let first = λ (u : ItemType). unless (same u type.Text) (column_of key) in
    let z = then_ok (type_of key names) (λ u. and_then (all_of w (first u) (map typed es) names) (λ c. told c names)) after ok in
    let q = then_ok (all_of w (first z.0) (map typed es) names) (λ c. told c names) after z.1.1 in
    extends_self names after (told_ok q.0 names after q.1.1).1

-- statement by statement: what each puts behind the names stays in front of what the next does
order_extends : (ss : List Stmt) (names after : Names) → in_order (map names_after ss) names ≡ Ok after → Extends names after
order_extends [] names after ok = extends_self names after (cc)
order_extends (s ∷ ss) names after ok =
    let z = then_ok (names_after s names) (in_order (map names_after ss)) after ok in
    let here = step_extends (deep_step (step_of s)) names z.0 (sym (names_by names s (step_of s) refl) ∙ z.1.0) in
    let rest = order_extends ss z.0 after z.1.1 in
    (here.0 ++ rest.0, rest.1 ∙ ap (λ ns. ns ++ rest.0) here.1 ∙ append_assoc names here.0 rest.0)

-- behind statements the names before them are the first ones
pub take-after : (ss : List Stmt) (names after : Names) → in_order (map names_after ss) names ≡ Ok after → take (length names) after ≡ names
take-after ss names after ok =
    let more = order_extends ss names after ok in
    ap (take (length names)) more.1 ∙ take-append_seam names more.0

-- statements only put names behind those before them
pub length-after : (ss : List Stmt) (names after : Names) → in_order (map names_after ss) names ≡ Ok after → length names ≤ length after
length-after ss names after ok =
    let more = order_extends ss names after ok in
    omega (arith, ap length more.1, length-append names more.0)

-- what a block and a loop leave, once the names bound in them are forgotten
pub block_left : (ss : List Stmt) (names after left : Names) (count : ℕ) → in_order (map names_after ss) names ≡ Ok after
    → count ≡ length names → left ≡ take count after
    → block (map names_after ss) names ≡ Ok left
block_left ss names after left count ok counted is =
    ap (λ r. and_then r (λ t. Ok names)) ok ∙ ap (λ ns. Ok ns) (sym (is ∙ ap (λ n. take n after) counted ∙ take-after ss names after ok))

-- a turn binds its text behind the names before it, so these are the first ones here too
pub turn_left : (x : Bytes) (ss : List Stmt) (names bound after left : Names) (count : ℕ) → bound ≡ names ++ (x, type.Text) ∷ []
    → in_order (map names_after ss) bound ≡ Ok after → count ≡ length names → left ≡ take count after
    → turn x (map names_after ss) names ≡ Ok left
turn_left x ss names bound after left count binds ok counted is =
    let inner = names ++ (x, type.Text) ∷ [] in
    let done : in_order (map names_after ss) inner ≡ Ok after = subst (λ ns. in_order (map names_after ss) ns ≡ Ok after) binds ok in
    let fewer : length names ≤ length inner = omega (arith, length-append names ((x, type.Text) ∷ [])) in
    let front : take (length names) after ≡ names =
    sym (take-take (length names) (length inner) after fewer)
    ∙ ap (take (length names)) (take-after ss inner after done)
    ∙ take-append_seam names ((x, type.Text) ∷ []) in
    ap (λ r. and_then r (λ t. Ok names)) done ∙ ap (λ ns. Ok ns) (sym (is ∙ ap (λ n. take n after) counted ∙ front))

-- what the code tells of a body, from what it tells of its statements
pub judge_tells : (b : Body) (ss : List Stmt) (r : Result (Unit {0}) (OrNoMemory ℕ)) (start after : Names) → ss ≡ b.stmts
    → start ≡ [] → Leaves r after (in_order (map names_after ss) start)
    → MatchResult r (λ _. IsTyped b) (λ fault. (column : ℕ) → fault ≡ Cause column → judge b ≡ Err column)
judge_tells b ss (Ok _) start after all none_yet leaves =
    subst (λ ss. AreTyped [] ss) all (body_sound ss [] after (subst (λ ns. in_order (map names_after ss) ns ≡ Ok after) none_yet leaves))
judge_tells b ss (Err fault) start after all none_yet leaves = λ column is.
    subst (λ ss. in_order (map names_after ss) [] ≡ Err column) all (subst (λ ns. in_order (map names_after ss) ns ≡ Err column) none_yet (leaves column is))
