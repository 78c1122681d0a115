-- Where an expression fails: the checker's column, and back.
use Rattle.std.proofs.Common.{◌≡◌, ℕ, List, [], ◌∷◌, ◌++◌, ◌⊎◌, inl, inr, map, Option, Some, None, Ok, Err, refl, ap, sym, ◌∙◌, subst}
use Rattle.std.specs.List.{AllByRecursion}
use Rattle.plain_data.specs.Texts.{Bytes}
use Rattle.txn_trees.specs.declared.expression.Expr.{Expr, out-Expr, roll-Expr}
use Rattle.txn_trees.specs.declared.expression.Operand.{Operand}
use Rattle.txn_trees.specs.declared.expression.ExprNode.{ExprNode, out-ExprNode, map-ExprNode}
use Rattle.txn_trees.specs.declared.expression.ExprNode.TheOpen.{ExprNode-F}
use Rattle.txn_trees.specs.declared.expression.ExprNode.TheFolds.{ind-Expr}
use Rattle.txn_trees.specs.declared.expression.ExprNode.TheViews.{out-roll-ExprNode, out-roll-Expr, out-roll-Operand}
use Rattle.txn_grammar.specs.Trees.{column_of}
use Rattle.txn_lang.specs.declared.item_type.Type.{«Type» as ItemType}
use Rattle.txn_lang.specs.declared.item_type.Type.TheVariants as type
use Rattle.txn_lang.specs.Types.{Names, type_bound, asked_type}
use Rattle.txn_lang.specs.Typing.{Judged, type_of, node_of, value_of, named}
use Rattle.txn_lang.proofs.Typing.{type_by}
use Rattle.type_errors.specs.Failing.{Asked, of_type, further, operands, IsUnsuited, Fails}
use Rattle.type_errors.proofs.Gone.{go_all, FailsInside, Sound, all_stopped, all_told, all_stop_there, all_told_there}
use Rattle.type_errors.proofs.Nodes.{fault_of, fault, IsNoName, fault_is}

-- ---- of operands

-- a fault that is told is the column
pub err_of : {A : Type 0} (r : Judged A) (column : ℕ) → fault_of r ≡ Some column → r ≡ Err column
err_of (Ok a) column e = absurd (cc)
err_of (Err other) column e = cc

module _ (names : Names) where
  -- what the loop tells of operands: one fails inside, or one doesn't suit
  pub operands_fail : (all : List Asked) (column : ℕ) → AllByRecursion (Sound names) all → fault (go_all names all) ≡ Some column
      → FailsInside names all column ⊎ IsUnsuited names all column
  operands_fail all column sound e = by (go_all names all) refl e
    where
      by : (r : Judged (Option ℕ)) → go_all names all ≡ r → fault r ≡ Some column → FailsInside names all column ⊎ IsUnsuited names all column
      by (Err other) is e = let same : other ≡ column = cc in inl (all_stopped names all column sound (is ∙ ap (λ c. Err c) same))
      by (Ok None) is e = absurd (cc)
      by (Ok (Some other)) is e = let same : other ≡ column = cc in inr (all_told names all column (is ∙ ap (λ c. Ok (Some c)) same))

  -- ---- an expression, whatever is found of its operands

  -- a name is told only where it isn't bound
  name_fails : (e : Expr) (x : Bytes) (column : ℕ) → node_of e ≡ ExprNode-F.Name x → type_of e names ≡ Err column → Fails names e column
  name_fails e x column is ends = by (type_bound names x) refl (sym (type_by names e (ExprNode-F.Name x) is) ∙ ends)
    where
      by : (o : Option ItemType) → type_bound names x ≡ o → named (column_of e) o ≡ Err column → Fails names e column
      by (Some t) bound e_is = absurd (cc)
      by None bound e_is = let same : column_of e ≡ column = cc in subst (Fails names e) same (Fails.unbound e x is bound)

  -- another expression is told where its operands are
  others_fail : (e : Expr) (n : ExprNode-F ExprNode Expr Operand) (column : ℕ) → node_of e ≡ n → IsNoName names n
      → AllByRecursion (Sound names) (operands n) → type_of e names ≡ Err column → Fails names e column
  others_fail e n column is unnamed sound ends =
      by (operands_fail (operands n) column sound (sym (fault_is names e n is unnamed) ∙ ap fault_of ends))
    where
      by : FailsInside names (operands n) column ⊎ IsUnsuited names (operands n) column → Fails names e column
      by (inl found) =
          Fails.inside e column found.before found.after found.here (ap operands is ∙ found.split) found.typed found.fails
      by (inr found) = Fails.unsuited e column (subst (λ m. IsUnsuited names (operands m) column) (sym is) found)

  -- it is a name, or none
  abbrev IsSomeName : ExprNode-F ExprNode Expr Operand → Type 0
  IsSomeName n = (x : Bytes) × (n ≡ ExprNode-F.Name x)

  name_or_none : (n : ExprNode-F ExprNode Expr Operand) → IsNoName names n ⊎ IsSomeName n
  name_or_none (ExprNode-F.Number z) = inl tt
  name_or_none (ExprNode-F.Text t) = inl tt
  name_or_none (ExprNode-F.Bool b) = inl tt
  name_or_none (ExprNode-F.Name x) = inr (x, refl)
  name_or_none (ExprNode-F.Texts es) = inl tt
  name_or_none (ExprNode-F.Len a) = inl tt
  name_or_none (ExprNode-F.Str a) = inl tt
  name_or_none (ExprNode-F.Negative a) = inl tt
  name_or_none (ExprNode-F.Not a) = inl tt
  name_or_none (ExprNode-F.Compare a r b) = inl tt
  name_or_none (ExprNode-F.Chain a os) = inl tt
  name_or_none (ExprNode-F.Read k key word es) = inl tt

  -- a column that is told of an expression is where it fails
  abbrev SoundExpr : Expr → Type 0
  SoundExpr e = (column : ℕ) → type_of e names ≡ Err column → Fails names e column

  -- one layer: each operand in it is some expression, by h, of which that is so
  module _ {N E O : Type 0} (hN : N → ExprNode) (hE : E → Expr) (hO : O → Operand)
      (exprs : (e : E) → SoundExpr (hE e)) (values : (o : O) → SoundExpr (value_of (hO o))) where
    abbrev layer : ExprNode-F N E O → ExprNode-F ExprNode Expr Operand
    layer = map-ExprNode N E O ExprNode Expr Operand hN hE hO

    each_element : (wanted : ItemType) (es : List E) → AllByRecursion (Sound names) (map (of_type wanted) (map hE es))
    each_element wanted [] = tt
    each_element wanted (e ∷ es) = (exprs e, each_element wanted es)

    each_further : (os : List O) → AllByRecursion (Sound names) (map further (map hO os))
    each_further [] = tt
    each_further (o ∷ os) = (values o, each_further os)

    each_operand : (y : ExprNode-F N E O) → AllByRecursion (Sound names) (operands (layer y))
    each_operand (ExprNode-F.Number z) = tt
    each_operand (ExprNode-F.Text t) = tt
    each_operand (ExprNode-F.Bool b) = tt
    each_operand (ExprNode-F.Name x) = tt
    each_operand (ExprNode-F.Texts es) = each_element type.Text es
    each_operand (ExprNode-F.Len a) = (exprs a, tt)
    each_operand (ExprNode-F.Str a) = (exprs a, tt)
    each_operand (ExprNode-F.Negative a) = (exprs a, tt)
    each_operand (ExprNode-F.Not a) = (exprs a, tt)
    each_operand (ExprNode-F.Compare a r b) = (exprs a, (exprs b, tt))
    each_operand (ExprNode-F.Chain a os) = (exprs a, each_further os)
    each_operand (ExprNode-F.Read k key word es) = (exprs key, each_element (asked_type word) es)

    layer_fails : (y : ExprNode-F N E O) (e : Expr) → node_of e ≡ layer y → SoundExpr e
    layer_fails y e is column ends = by (name_or_none (layer y))
      where
        by : IsNoName names (layer y) ⊎ IsSomeName (layer y) → Fails names e column
        by (inl unnamed) = others_fail e (layer y) column is unnamed (each_operand y) ends
        by (inr name) = name_fails e name.0 column (is ∙ name.1) ends

  -- each expression that has this node
  abbrev NodeSound : ExprNode → Type 0
  NodeSound n = (e : Expr) → (out-Expr e).node ≡ n → SoundExpr e

  -- by induction over expressions
  pub expr_fails : (e : Expr) → SoundExpr e
  expr_fails = ind-Expr NodeSound SoundExpr (λ o. SoundExpr (value_of o))
      (λ x y is e at. layer_fails (λ c. c.0) (λ c. c.0) (λ c. c.0) (λ c. c.1) (λ c. c.1) y e (ap out-ExprNode at ∙ out-roll-ExprNode x ∙ sym is))
      (λ x y is. (subst (λ z. NodeSound z.node) is y.node.1) (roll-Expr x) (ap (λ z. z.node) (out-roll-Expr x)))
      (λ x y is. subst (λ z. SoundExpr z.value) (is ∙ sym (out-roll-Operand x)) y.value.1)

  -- ---- and back

  -- operands of which the loop tells a column make their node fail there
  told_of_node : (e : Expr) (column : ℕ) → IsNoName names (node_of e) → fault (go_all names (operands (node_of e))) ≡ Some column
      → type_of e names ≡ Err column
  told_of_node e column unnamed ends = err_of (type_of e names) column (fault_is names e (node_of e) refl unnamed ∙ ends)

  -- what has operands is no name
  no_name : (n : ExprNode-F ExprNode Expr Operand) (before after : List Asked) (here : Asked) → operands n ≡ before ++ here ∷ after → IsNoName names n
  no_name n before after here split = by (name_or_none n)
    where
      none : (before : List Asked) → [] ≡ before ++ here ∷ after → ⊥
      none [] e = absurd (cc)
      none (a ∷ before) e = absurd (cc)

      by : IsNoName names n ⊎ IsSomeName n → IsNoName names n
      by (inl unnamed) = unnamed
      by (inr name) = absurd (none before (sym (ap operands name.1) ∙ split))

  pub expr_told : (e : Expr) (column : ℕ) → Fails names e column → type_of e names ≡ Err column
  expr_told _ _ (Fails.unbound e x is bound) = type_by names e (ExprNode-F.Name x) is ∙ ap (named (column_of e)) bound
  expr_told _ _ (Fails.inside e column before after here split typed fails) =
      told_of_node e column (no_name (node_of e) before after here split)
      (ap (λ all. fault (go_all names all)) split
      ∙ ap fault (all_stop_there names before after here column typed (expr_told here.operand column fails)))
  expr_told _ _ (Fails.unsuited e column is) =
      told_of_node e column (no_name (node_of e) is.before is.after is.here is.split)
      (ap fault (all_told_there names (operands (node_of e)) column is))
