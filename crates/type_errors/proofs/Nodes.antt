-- What the checker makes of a node is what the one loop makes of its operands.
use Rattle.std.proofs.Common.{◌≡◌, ℕ, Bool, List, [], ◌∷◌, map, Option, Some, None, Ok, Err, refl, ap, ◌∙◌}
use Rattle.std.specs.Option.{option_or}
use Rattle.txn_trees.specs.declared.word.Operator.{Operator}
use Rattle.txn_trees.specs.declared.expression.Expr.{Expr}
use Rattle.txn_trees.specs.declared.expression.Operand.{Operand}
use Rattle.txn_trees.specs.declared.expression.ExprNode.{ExprNode}
use Rattle.txn_trees.specs.declared.expression.ExprNode.TheOpen.{ExprNode-F}
use Rattle.txn_grammar.specs.Trees.{column_of}
use Rattle.txn_lang.specs.declared.item_type.Type.{«Type» as ItemType}
use Rattle.txn_lang.specs.declared.item_type.Type.TheVariants as type
use Rattle.txn_lang.specs.Types.{Names, same, has_length, may_compare, may_begin, asked_type, answered_type}
use Rattle.txn_lang.specs.Typing.{Judged, and_then, unless, told, Typed, all_of, operands_of, may_be_first, typed, judged_operand, type_of, node_of, expect}
use Rattle.txn_lang.specs.Typing.{operator_of, value_of, fits}
use Rattle.txn_lang.proofs.Typing.{typed_is, operand_is, type_by}
use Rattle.type_errors.specs.Failing.{of_type, begins, further, operands}
use Rattle.type_errors.proofs.Gone.{go, go_all}

-- ---- faults

-- the column that is told, if one is
abbrev pub fault_of : {A : Type 0} → Judged A → Option ℕ
fault_of (Ok a) = None
fault_of (Err column) = Some column

-- the same of a complaint that is told at the end
abbrev pub fault : Judged (Option ℕ) → Option ℕ
fault (Ok complaint) = complaint
fault (Err column) = Some column

-- two steps do the same where they do so of each value
pub then_same : {A B : Type 0} (r : Judged A) (f g : A → Judged B) → ((a : A) → f a ≡ g a) → and_then r f ≡ and_then r g
then_same (Ok a) f g same_at = same_at a
then_same (Err column) f g same_at = refl

-- to tell a complaint is a fault where there is one
told_fault : {A : Type 0} (complaint : Option ℕ) (a : A) → fault_of (told complaint a) ≡ complaint
told_fault None a = refl
told_fault (Some column) a = refl

-- a step, and then a complaint that is told
then_told : {A B : Type 0} (r : Judged A) (f : A → Judged B) (g : A → Judged (Option ℕ)) → ((a : A) → fault_of (f a) ≡ fault (g a))
    → fault_of (and_then r f) ≡ fault (and_then r g)
then_told (Ok a) f g same_at = same_at a
then_told (Err column) f g same_at = refl

-- the loop's complaint, told at its end
end_told : {A : Type 0} (r : Judged (Option ℕ)) (a : A) → fault_of (and_then r (λ c. told c a)) ≡ fault r
end_told (Ok complaint) a = told_fault complaint a
end_told (Err column) a = refl

-- the column of an expression
column_is : (e : Expr) → (typed e).column ≡ column_of e
column_is e = ap (λ (t : Typed). t.column) (typed_is e)

-- ---- the checker's two loops

module _ (names : Names) where
  -- expressions that are each to be of one type
  pub all_of_is : (wanted first : ItemType) (complaint : Option ℕ) (es : List Expr)
      → all_of wanted complaint (map typed es) names ≡ go names first complaint (map (of_type wanted) es)
  all_of_is wanted first complaint [] = refl
  all_of_is wanted first complaint (e ∷ es) =
      then_same (type_of e names) (λ t. all_of wanted (option_or complaint (unless (same t wanted) (typed e).column)) (map typed es) names)
      (λ t. go names first (option_or complaint (unless (same t wanted) (column_of e))) (map (of_type wanted) es))
      (λ t. ap (λ c. all_of wanted (option_or complaint (unless (same t wanted) c)) (map typed es) names) (column_is e)
      ∙ all_of_is wanted first (option_or complaint (unless (same t wanted) (column_of e))) es)

  -- the further operands of a chain
  operands_of_is : (first : ItemType) (complaint : Option ℕ) (os : List Operand)
      → operands_of first complaint (map judged_operand os) names ≡ go names first complaint (map further os)
  operands_of_is first complaint [] = refl
  operands_of_is first complaint (o ∷ os) =
      ap (λ (p : Operator × Typed). and_then (p.1.judged names)
      (λ u. operands_of first (option_or complaint (unless (fits p.0 first u) p.1.column)) (map judged_operand os) names)) (operand_is o)
      ∙ then_same (type_of (value_of o) names)
      (λ u. operands_of first (option_or complaint (unless (fits (operator_of o) first u) (typed (value_of o)).column)) (map judged_operand os) names)
      (λ u. go names first (option_or complaint (unless (fits (operator_of o) first u) (column_of (value_of o)))) (map further os))
      (λ u. ap (λ c. operands_of first (option_or complaint (unless (fits (operator_of o) first u) c)) (map judged_operand os) names) (column_is (value_of o))
      ∙ operands_of_is first (option_or complaint (unless (fits (operator_of o) first u) (column_of (value_of o)))) os)

  -- what may stand first
  begins_is : (first : ItemType) (os : List Operand) → may_be_first first (map judged_operand os) ≡ begins os first
  begins_is first [] = refl
  begins_is first (o ∷ os) = ap (λ (p : Operator × Typed). may_begin p.0 first) (operand_is o)

  -- ---- a node

  -- it is no name
  abbrev pub IsNoName : ExprNode-F ExprNode Expr Operand → Type 0
  IsNoName (ExprNode-F.Name x) = ⊥
  IsNoName n = Unit {0}

  -- one operand, with a test of its own type
  one_operand : (a : Expr) (test : ItemType → ItemType → Bool) (given : ItemType)
      → fault_of (and_then (type_of a names) (λ t. told (unless (test t t) (typed a).column) given))
      ≡ fault (go_all names (record { operand = a; suits = test } ∷ []))
  one_operand a test given =
      then_told (type_of a names) (λ t. told (unless (test t t) (typed a).column) given) (λ t. Ok (unless (test t t) (column_of a)))
      (λ t. told_fault (unless (test t t) (typed a).column) given ∙ ap (unless (test t t)) (column_is a))

  -- two, the second beside the first
  two_operands : (a b : Expr) (test : ItemType → Bool) (given : ItemType)
      → fault_of (and_then (type_of a names)
      (λ t. and_then (type_of b names) (λ u. told (option_or (unless (test t) (typed a).column) (unless (same u t) (typed b).column)) given)))
      ≡ fault (go_all names (record { operand = a; suits = λ first own. test own } ∷ record { operand = b; suits = λ first own. same own first } ∷ []))
  two_operands a b test given =
      then_told (type_of a names)
      (λ t. and_then (type_of b names) (λ u. told (option_or (unless (test t) (typed a).column) (unless (same u t) (typed b).column)) given))
      (λ t. and_then (type_of b names) (λ u. Ok (option_or (unless (test t) (column_of a)) (unless (same u t) (column_of b)))))
      (λ t. then_told (type_of b names) (λ u. told (option_or (unless (test t) (typed a).column) (unless (same u t) (typed b).column)) given)
      (λ u. Ok (option_or (unless (test t) (column_of a)) (unless (same u t) (column_of b))))
      (λ u. told_fault (option_or (unless (test t) (typed a).column) (unless (same u t) (typed b).column)) given
      ∙ ap (λ c. option_or (unless (test t) c) (unless (same u t) (typed b).column)) (column_is a)
      ∙ ap (λ c. option_or (unless (test t) (column_of a)) (unless (same u t) c)) (column_is b)))

  -- a first one at its column, and further ones of one type
  pub first_and_more : {A : Type 0} (a : Expr) (column : ℕ) → column ≡ column_of a → (wanted_first wanted : ItemType) (es : List Expr) (given : A)
      → fault_of (and_then (type_of a names)
      (λ t. and_then (all_of wanted (unless (same t wanted_first) column) (map typed es) names) (λ c. told c given)))
      ≡ fault (go_all names (of_type wanted_first a ∷ map (of_type wanted) es))
  first_and_more a column is wanted_first wanted es given =
      then_told (type_of a names)
      (λ t. and_then (all_of wanted (unless (same t wanted_first) column) (map typed es) names) (λ c. told c given))
      (λ t. go names t (unless (same t wanted_first) (column_of a)) (map (of_type wanted) es))
      (λ t. end_told (all_of wanted (unless (same t wanted_first) column) (map typed es) names) given
      ∙ ap (λ c. fault (all_of wanted (unless (same t wanted_first) c) (map typed es) names)) is
      ∙ ap fault (all_of_is wanted t (unless (same t wanted_first) (column_of a)) es))

  -- one that has to be of a type, and gives it
  pub one_expected : (wanted : ItemType) (a : Expr) → fault_of (expect wanted a names) ≡ fault (go_all names (of_type wanted a ∷ []))
  one_expected wanted a =
      then_told (type_of a names) (λ t. told (unless (same t wanted) (column_of a)) t) (λ t. Ok (unless (same t wanted) (column_of a)))
      (λ t. told_fault (unless (same t wanted) (column_of a)) t)

  -- elements that are each a text
  elements : (es : List Expr) → fault_of (and_then (all_of type.Text None (map typed es) names) (λ c. told c type.Texts))
      ≡ fault (go_all names (map (of_type type.Text) es))
  elements [] = refl
  elements (e ∷ es) =
      end_told (all_of type.Text None (map typed (e ∷ es)) names) type.Texts
      ∙ ap fault (then_same (type_of e names) (λ t. all_of type.Text (unless (same t type.Text) (typed e).column) (map typed es) names)
      (λ t. go names t (unless (same t type.Text) (column_of e)) (map (of_type type.Text) es))
      (λ t. ap (λ c. all_of type.Text (unless (same t type.Text) c) (map typed es) names) (column_is e)
      ∙ all_of_is type.Text t (unless (same t type.Text) (column_of e)) es))

  -- a chain
  a_chain : (a : Expr) (os : List Operand)
      → fault_of (and_then (type_of a names)
      (λ t. and_then (operands_of t (unless (may_be_first t (map judged_operand os)) (typed a).column) (map judged_operand os) names) (λ c. told c t)))
      ≡ fault (go_all names (record { operand = a; suits = λ first own. begins os own } ∷ map further os))
  a_chain a os =
      then_told (type_of a names)
      (λ t. and_then (operands_of t (unless (may_be_first t (map judged_operand os)) (typed a).column) (map judged_operand os) names) (λ c. told c t))
      (λ t. go names t (unless (begins os t) (column_of a)) (map further os))
      (λ t. end_told (operands_of t (unless (may_be_first t (map judged_operand os)) (typed a).column) (map judged_operand os) names) t
      ∙ ap (λ b. fault (operands_of t (unless b (typed a).column) (map judged_operand os) names)) (begins_is t os)
      ∙ ap (λ c. fault (operands_of t (unless (begins os t) c) (map judged_operand os) names)) (column_is a)
      ∙ ap fault (operands_of_is t (unless (begins os t) (column_of a)) os))

  -- FORM BY FORM: what is told of an expression that is no name is what the loop tells of its operands
  pub fault_is : (e : Expr) (n : ExprNode-F ExprNode Expr Operand) → node_of e ≡ n → IsNoName n
      → fault_of (type_of e names) ≡ fault (go_all names (operands n))
  fault_is e (ExprNode-F.Number z) is unnamed = ap fault_of (type_by names e (ExprNode-F.Number z) is)
  fault_is e (ExprNode-F.Text t) is unnamed = ap fault_of (type_by names e (ExprNode-F.Text t) is)
  fault_is e (ExprNode-F.Bool b) is unnamed = ap fault_of (type_by names e (ExprNode-F.Bool b) is)
  fault_is e (ExprNode-F.Name x) is unnamed = absurd unnamed
  fault_is e (ExprNode-F.Texts es) is unnamed = ap fault_of (type_by names e (ExprNode-F.Texts es) is) ∙ elements es
  fault_is e (ExprNode-F.Len a) is unnamed =
      ap fault_of (type_by names e (ExprNode-F.Len a) is) ∙ one_operand a (λ first own. has_length own) type.Int
  fault_is e (ExprNode-F.Str a) is unnamed =
      ap fault_of (type_by names e (ExprNode-F.Str a) is) ∙ one_operand a (λ first own. same own type.Int) type.Text
  fault_is e (ExprNode-F.Negative a) is unnamed =
      ap fault_of (type_by names e (ExprNode-F.Negative a) is) ∙ one_operand a (λ first own. same own type.Int) type.Int
  fault_is e (ExprNode-F.Not a) is unnamed =
      ap fault_of (type_by names e (ExprNode-F.Not a) is) ∙ one_operand a (λ first own. same own type.Bool) type.Bool
  fault_is e (ExprNode-F.Compare a r b) is unnamed =
      ap fault_of (type_by names e (ExprNode-F.Compare a r b) is) ∙ two_operands a b (may_compare r) type.Bool
  fault_is e (ExprNode-F.Chain a os) is unnamed = ap fault_of (type_by names e (ExprNode-F.Chain a os) is) ∙ a_chain a os
  fault_is e (ExprNode-F.Read k key word es) is unnamed =
      ap fault_of (type_by names e (ExprNode-F.Read k key word es) is)
      ∙ first_and_more key (typed key).column (column_is key) type.Text (asked_type word) es (answered_type k word)
