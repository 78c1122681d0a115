-- What is shown of an expression that the grammar derives is read back, within the same levels.
use Rattle.std.proofs.Common.{◌≡◌, ℕ, zero, suc, ◌≤◌, ℤ, Bool, true, false, cond, List, [], ◌∷◌, ◌++◌, map, length}
use Rattle.std.proofs.Common.{Option, Some, None, refl, ap, sym, ◌∙◌, subst, inl, inr, arith}
use Rattle.std.specs.List.{flat_map}
use Rattle.std.specs.Option.{option_map}
use Rattle.std.proofs.lemmas.Bool.{ltb-false, le-ltb}
use Rattle.plain_data.specs.Texts.{Bytes}
use Rattle.rdt_types.specs.declared.address.Kind.{Kind}
use Rattle.predictive_parsing.specs.Rules.{Rule, One, Pure, Or, Many, none, more, Optional}
use Rattle.txn_trees.specs.declared.expression.Expr.{Expr}
use Rattle.txn_trees.specs.declared.expression.ExprNode.TheVariants as made
use Rattle.txn_trees.specs.declared.expression.Operand.{Operand, out-Operand}
use Rattle.txn_trees.specs.declared.word.Operator.{Operator}
use Rattle.txn_trees.specs.declared.word.Operator.TheVariants as operator
use Rattle.txn_trees.specs.declared.word.Relation.{Relation}
use Rattle.txn_trees.specs.declared.word.ReadWord.{ReadWord}
use Rattle.txn_grammar.specs.declared.rank.Rank.{Rank}
use Rattle.txn_grammar.specs.declared.rank.Rank.TheVariants as rank
use Rattle.txn_grammar.specs.declared.symbol.Symbol.{Symbol}
use Rattle.txn_grammar.specs.declared.symbol.Symbol.TheVariants as s
use Rattle.txn_grammar.specs.declared.operation.Operation.{Operation}
use Rattle.txn_grammar.specs.declared.target.Target.{Target}
use Rattle.txn_grammar.specs.declared.token.Token.{Token}
use Rattle.txn_grammar.specs.declared.token.Token.TheVariants as t
use Rattle.txn_grammar.specs.declared.token.Spot.{Spot}
use Rattle.txn_grammar.specs.Tokens.{at, of_symbol, number, text, name, operator_of, read_of, read_named}
use Rattle.txn_grammar.specs.Trees.{expr, number_expr, text_expr, truth_expr, name_expr, operand, chained, compared, target_of, read_expr}
use Rattle.txn_grammar.specs.Trees as trees
use Rattle.txn_grammar.specs.Lexer.{is_malformed}
use Rattle.txn_grammar.specs.Grammar.{LeafRule, NumberLeaf, TextLeaf, TruthLeaf, NameLeaf, Further, Chain, OtherSide}
use Rattle.txn_grammar.specs.Grammar.{Comparison, ComparisonOf, Negative, Not, InParens, Group, Len, Str, AfterComma}
use Rattle.txn_grammar.specs.Grammar.{Elements, Texts, Times, Arguments, Targeted, Read, Opened, Unary, Negation}
use Rattle.txn_grammar.specs.Grammar.{Expression}
use Rattle.txn_print.specs.declared.place.Place.{Place}
use Rattle.txn_print.specs.declared.place.Place.TheVariants as place
use Rattle.txn_print.specs.Places.{tightness, needs_parens, chain_place, operand_place}
use Rattle.txn_print.specs.Pieces.{Piece, spaced, word}
use Rattle.txn_print.specs.Canonical.{Shown, shown_as, grouped, given, after_comma, separated, target, request}
use Rattle.txn_print.specs.Canonical.{kind_symbol, sign, comparison, truth, read_name, further, shown_operand}
use Rattle.txn_print.specs.Canonical.{shown_chain, shown, expression}
use Rattle.txn_print.specs.Canonical as canon
use Rattle.txn_print.specs.Columns.{bare}
use Rattle.txn_print.proofs.Erased.{bare_operand, bared_group, bared_number, bared_text, bared_bool, bared_name}
use Rattle.txn_print.proofs.Erased.{bared_texts, bared_len, bared_str, bared_negative, bared_not, bared_compare}
use Rattle.txn_print.proofs.Erased.{bared_read}
use Rattle.txn_print.proofs.Equations.{at_number, at_text, at_bool, at_name, at_texts, at_len, at_str, at_negative}
use Rattle.txn_print.proofs.Equations.{at_not, at_compare, at_chain, at_read, shown_group}
use Rattle.txn_print.proofs.Back.{Back, Each, within, many_back}
use Rattle.txn_print.proofs.Within.{Within, rule_at, deeper, looser_at}
use Rattle.txn_print.proofs.Keeps.{Keeps, keep_one, keep_further, keep_chain, keep_after_comma, keep_targeted, keep_unary, keep_negation, keep_expression}
use Rattle.txn_print.proofs.Operations.{read_again}
use Rattle.txn_print.proofs.Productions

module _ (Good : Piece → Type 0) (goods : Productions.Goods Good) where
  -- a token of the source, as it would stand between spaces, unless it is malformed
  abbrev pub G : Spot → Type 0
  G spot = is_malformed spot.token ≡ false → Good (spaced spot.token)

  -- What is shown of an expression that stood at place p is read back, without parentheses by the rule of its rank, and
  -- at p and at each looser place as it is shown there. Where it stood in parentheses it needs no level more.
  pub record Fine (n : ℕ) (p : Place) (shown : Shown) (w : Expr) : Type 0 where
    pub inner : Back Good bare (rule_at n shown.rank) shown.pieces w
    pub here : (q : Place) → tightness q ≤ tightness p → Back Good bare (rule_at n q) (canon.at q shown) w

  -- what is of a rank stands without parentheses at each place that is no tighter
  own : (n : ℕ) (p r : Place) (ps : List Piece) (w : Expr) → tightness p ≤ tightness r → Back Good bare (rule_at n r) ps w
      → Fine n p (shown_as r ps) w
  own n p r ps w h b = record {
    inner = b;
    here = λ q k.
        let no : needs_parens r q ≡ false = le-ltb (tightness r) (tightness q) (omega arith) in
        subst (λ t. Back Good bare (rule_at n q) (cond t (grouped ps) ps) w) (sym no)
        (within Good bare (rule_at n r) (rule_at n q) ps w (looser_at n r q (omega arith)) b);
  }

  -- at a looser place
  looser : (n : ℕ) (p q : Place) (shown : Shown) (w : Expr) → tightness q ≤ tightness p → Fine n p shown w → Fine n q shown w
  looser n p q shown w h f = record { inner = f.inner; here = λ r k. f.here r (omega arith) }

  -- with a level more it stands at any place, in parentheses where it needs them
  anywhere : (n : ℕ) (q : Place) (shown : Shown) (w : Expr) → Back Good bare (rule_at n shown.rank) shown.pieces w → (t : Bool)
      → needs_parens shown.rank q ≡ t
      → Back Good bare (rule_at (suc n) q) (cond t (grouped shown.pieces) shown.pieces) w
  unfolding Unary
  anywhere n q shown w b true h =
      within Good bare (rule_at (suc n) place.Unary) (rule_at (suc n) q) (grouped shown.pieces) w (looser_at (suc n) place.Unary q (tightest q))
      (within Good bare (Group (Expression n)) (Unary (suc n)) (grouped shown.pieces) w (λ ts us e x. inl (inr (inl x)))
      (Productions.group_back Good goods (Expression n) shown.pieces w
      (within Good bare (rule_at n shown.rank) (Expression n) shown.pieces w (looser_at n shown.rank place.Disjunction (omega arith)) b)))
    where
      tightest : (q : Place) → tightness q ≤ tightness place.Unary
      tightest place.Disjunction = omega arith
      tightest place.Conjunction = omega arith
      tightest place.Negation = omega arith
      tightest place.Comparison = omega arith
      tightest place.Sum = omega arith
      tightest place.Product = omega arith
      tightest place.Unary = omega arith
  anywhere n q shown w b false h =
      within Good bare (rule_at (suc n) shown.rank) (rule_at (suc n) q) shown.pieces w
      (looser_at (suc n) shown.rank q (ltb-false (tightness shown.rank) (tightness q) h))
      (within Good bare (rule_at n shown.rank) (rule_at (suc n) shown.rank) shown.pieces w (deeper n shown.rank) b)

  -- what stood in parentheses
  inside : (n : ℕ) (shown : Shown) (w : Expr) → Fine n place.Disjunction shown w → Fine (suc n) place.Unary shown w
  inside n shown w f = record {
    inner = within Good bare (rule_at n shown.rank) (rule_at (suc n) shown.rank) shown.pieces w (deeper n shown.rank) f.inner;
    here = λ q k. anywhere n q shown w f.inner (needs_parens shown.rank q) refl;
  }

  -- shown alike
  as_shown : (n : ℕ) (p : Place) (e : Expr) (shown : Shown) (w : Expr) → canon.shown e ≡ shown → bare e ≡ w → Fine n p shown w
      → Fine n p (canon.shown e) (bare e)
  as_shown n p e shown w h k f = subst (λ x. Fine n p x (bare e)) (sym h) (subst (λ y. Fine n p shown y) (sym k) f)

  -- what the rule derives from good tokens is fine at the place
  abbrev pub AllFine : ℕ → Place → Rule Spot Expr → Type 0
  AllFine n p R = (ts us : List Spot) (e : Expr) → R ts e us → Each G ts → Fine n p (canon.shown e) (bare e)

  -- another name for the same
  moved : (n : ℕ) (p : Place) (e e' : Expr) → e ≡ e' → Fine n p (canon.shown e') (bare e') → Fine n p (canon.shown e) (bare e)
  moved n p e e' h f = subst (λ x. Fine n p (canon.shown x) (bare x)) (sym h) f

  -- what is closed in itself
  closed : (n : ℕ) (R : Rule Spot Expr) → Within R (Unary n) → (e : Expr) (ps : List Piece) (w : Expr)
      → canon.shown e ≡ shown_as place.Unary ps → bare e ≡ w → Back Good bare R ps w → Fine n place.Unary (canon.shown e) (bare e)
  closed n R f e ps w h k b =
      as_shown n place.Unary e (shown_as place.Unary ps) w h k (own n place.Unary place.Unary ps w (omega arith) (within Good bare R (Unary n) ps w f b))

  -- ---- leaves

  -- what was made of a token with its column
  made_inner : {A : Type 0} (o : Option A) (c : ℕ) (a : ℕ × A) → option_map (λ (x : A). (c, x)) o ≡ Some a → o ≡ Some a.1
  made_inner None c a e = absurd (cc)
  made_inner {A} (Some x) c a e = let k : ◌≡◌ {A = ℕ × A} (c, x) a = cc in ap (λ (p : ℕ × A). Some p.1) k

  -- what was taken with its column was made of the token of the first spot
  pub made_at : {A : Type 0} (f : Token → Option A) (ts us : List Spot) (a : ℕ × A) → (r : One (at f) ts a us) → f r.item.token ≡ Some a.1
  made_at f ts us a r = made_inner (f r.item.token) r.item.column a r.made

  -- the token that was taken is a good one
  pub good_taken : {A : Type 0} (f : Spot → Option A) (ts us : List Spot) (a : A) → (r : One f ts a us) → Each G ts → G r.item
  good_taken f ts us a r g = (subst (λ xs. Each G xs) r.first g).0

  -- only a number's token has a number, and it is that one's
  number_is : (x : Token) (v : ℤ) → number x ≡ Some v → x ≡ t.Number v
  number_is (t.Number y) v e = let k : y ≡ v = cc in ap t.Number k
  number_is _ v e = absurd (cc)

  -- only a text's token has a text, and it is that one's
  text_is : (x : Token) (v : Bytes) → text x ≡ Some v → x ≡ t.Text v
  text_is (t.Text y) v e = let k : y ≡ v = cc in ap t.Text k
  text_is _ v e = absurd (cc)

  -- only a name's token has a name, and it is that one's
  pub name_is : (x : Token) (v : Bytes) → name x ≡ Some v → x ≡ t.Name v
  name_is (t.Name y) v e = let k : y ≡ v = cc in ap t.Name k
  name_is _ v e = absurd (cc)

  -- a name that was taken is a token of the source, and it isn't malformed
  pub good_name : (ts us : List Spot) (a : ℕ × Bytes) → One (at name) ts a us → Each G ts → Good (spaced (t.Name a.1))
  good_name ts us a r g =
      subst (λ x. is_malformed x ≡ false → Good (spaced x)) (name_is _ a.1 (made_at name ts us a r)) (good_taken (at name) ts us a r g) refl

  -- a number, text or name is a token that was taken, so it is good; the words of truth values are anyway
  leaf_fine : (n : ℕ) → Within LeafRule (Unary n) → AllFine n place.Unary LeafRule
  leaf_fine n f ts us e (inl r) g =
      let c = r.value.0 in let v = r.value.1 in
      let good = subst (λ x. is_malformed x ≡ false → Good (spaced x)) (number_is _ v (made_at number ts r.middle r.value r.first))
      (good_taken (at number) ts r.middle r.value r.first g) refl in
      moved n place.Unary e (expr c (made.Number v)) r.second.is
      (closed n NumberLeaf (λ xs ys x q. f xs ys x (inl q)) (expr c (made.Number v)) _ _ (at_number (expr c (made.Number v)) v refl)
      (bared_number c v) (Productions.number_back Good v good))
  leaf_fine n f ts us e (inr (inl r)) g =
      let c = r.value.0 in let v = r.value.1 in
      let good = subst (λ x. is_malformed x ≡ false → Good (spaced x)) (text_is _ v (made_at text ts r.middle r.value r.first))
      (good_taken (at text) ts r.middle r.value r.first g) refl in
      moved n place.Unary e (expr c (made.Text v)) r.second.is
      (closed n TextLeaf (λ xs ys x q. f xs ys x (inr (inl q))) (expr c (made.Text v)) _ _ (at_text (expr c (made.Text v)) v refl) (bared_text c v)
      (Productions.text_back Good v good))
  leaf_fine n f ts us e (inr (inr (inl r))) g =
      let c = r.value.0 in let v = r.value.1 in
      moved n place.Unary e (expr c (made.Bool v)) r.second.is
      (closed n TruthLeaf (λ xs ys x q. f xs ys x (inr (inr (inl q)))) (expr c (made.Bool v)) _ _ (at_bool (expr c (made.Bool v)) v refl)
      (bared_bool c v) (Productions.truth_back Good v (goods.words (truth v))))
  leaf_fine n f ts us e (inr (inr (inr r))) g =
      let c = r.value.0 in let v = r.value.1 in
      moved n place.Unary e (expr c (made.Name v)) r.second.is
      (closed n NameLeaf (λ xs ys x q. f xs ys x (inr (inr (inr q)))) (expr c (made.Name v)) _ _ (at_name (expr c (made.Name v)) v refl)
      (bared_name c v) (Productions.name_back Good v (good_name ts r.middle r.value r.first g)))

  -- ---- parts in parentheses

  pub record Inside {A : Type 0} (P : Rule Spot A) (a : A) : Type 0 where
    pub from : List Spot
    pub to : List Spot
    pub derived : P from a to
    pub good : Each G from

  -- what stands in parentheses begins behind the opening one, so its tokens are good ones too
  pub inside_parens : {A : Type 0} (P : Rule Spot A) (ts us : List Spot) (a : ℕ × A) → InParens P ts a us → Each G ts → Inside P a.1
  inside_parens P ts us a r g = record {
    from = r.middle;
    to = r.second.middle;
    derived = subst (λ x. P r.middle x r.second.middle) (sym (ap (λ p. p.1) r.second.second.second.is)) r.second.first;
    good = keep_one G _ ts r.middle r.value r.first g;
  }

  -- expressions with a level less, at the loosest place
  module _ (n : ℕ) (fine : AllFine n place.Disjunction (Expression n)) where
    -- what is shown of an expression as a whole is read back
    abbrev pub Shows : Expr → Type 0
    Shows e = Back Good bare (Expression n) (expression e) (bare e)

    -- an expression is fine at the loosest place, so it is read back as it is shown there
    pub shows : (ts us : List Spot) (e : Expr) → Expression n ts e us → Each G ts → Shows e
    shows ts us e r g = (fine ts us e r g).here place.Disjunction (omega arith)

    -- what was derived from good tokens inside of something is read back as any expression is
    pub shows_inside : (e : Expr) → Inside (Expression n) e → Shows e
    shows_inside e i = shows i.from i.to e i.derived i.good

    -- expressions, so many
    pub record Shown_list (es : List Expr) (count : ℕ) : Type 0 where
      pub each : Each Shows es
      pub length : length es ≡ count

    -- one after another: each is derived behind its comma, and what it leaves are good tokens
    times_shown : (count : ℕ) (ts us : List Spot) (es : List Expr) → Times (AfterComma (Expression n)) count ts es us → Each G ts
        → Shown_list es count
    times_shown zero ts us es r g = subst (λ xs. Shown_list xs zero) (sym r.is) (record { each = tt; length = refl })
    times_shown (suc count) ts us es r g =
        let x = r.first in
        let here = shows x.middle r.middle r.value x.second (keep_one G _ ts x.middle x.value x.first g) in
        let rest = times_shown count r.middle r.second.middle r.second.value r.second.first
        (keep_after_comma G _ (keep_expression G n) ts r.middle r.value x g) in
        subst (λ xs. Shown_list xs (suc count)) (sym r.second.second.is) (record { each = (here, rest.each); length = ap (λ m. suc m) rest.length })

    -- none, or the first and so many behind commas; there are as many as were asked for
    pub arguments_shown : (count : ℕ) (ts us : List Spot) (es : List Expr) → Arguments (Expression n) count ts es us → Each G ts
        → Shown_list es count
    arguments_shown zero ts us es r g = subst (λ xs. Shown_list xs zero) (sym r.is) (record { each = tt; length = refl })
    arguments_shown (suc count) ts us es r g =
        let here = shows ts r.middle r.value r.first g in
        let rest = times_shown count r.middle r.second.middle r.second.value r.second.first (keep_expression G n ts r.middle r.value r.first g) in
        subst (λ xs. Shown_list xs (suc count)) (sym r.second.second.is) (record { each = (here, rest.each); length = ap (λ m. suc m) rest.length })

    -- one after another, as long as a comma follows
    commas_shown : (ts us : List Spot) (es : List Expr) → Many (AfterComma (Expression n)) ts es us → Each G ts → Each Shows es
    commas_shown ts us es (none ts') g = tt
    commas_shown ts us es (more ts' us' vs' e rest r rs) g = (
      shows r.middle us' e r.second (keep_one G _ ts r.middle r.value r.first g),
      commas_shown us' us rest rs
          (keep_after_comma G _ (keep_expression G n) ts us' e r g),
    )

    -- the first and those behind commas, or none
    elements_shown : (ts us : List Spot) (es : List Expr) → Or (Elements (Expression n)) (Pure []) ts es us → Each G ts → Each Shows es
    elements_shown ts us es (inl r) g =
        let l = r.first in
        let rest = commas_shown l.middle l.second.middle l.second.value l.second.first (keep_expression G n ts l.middle l.value l.first g) in
        let is : es ≡ l.value ∷ l.second.value = r.second.is ∙ ap (λ (x : Expr × List Expr). x.0 ∷ x.1) l.second.second.is in
        subst (λ xs. Each Shows xs) (sym is) (shows ts l.middle l.value l.first g, rest)
    elements_shown ts us es (inr r) g = subst (λ xs. Each Shows xs) (sym r.is) tt

    pub record Aimed (tg : Target) : Type 0 where
      pub column : ℕ
      pub kind : Kind
      pub key : Expr
      pub is : tg ≡ target_of (column, kind) key
      pub shown : Shows key

    -- a target is made of a kind's token and a key in parentheses, which is read back
    pub aimed : (ts us : List Spot) (tg : Target) → Targeted (Expression n) ts tg us → Each G ts → Aimed tg
    aimed ts us tg r g = record {
      column = r.value.0;
      kind = r.value.1;
      key = r.second.value.1;
      is = r.second.second.second.is;
      shown = shows_inside r.second.value.1
          (inside_parens (Expression n) r.middle r.second.middle r.second.value r.second.first (keep_one G _ ts r.middle r.value r.first g));
    }

    -- a name alone is the word of a read, and how that read is printed means it again
    read_word : (k : Kind) (x : Token) (op : Operation ReadWord) → read_of k x ≡ Some op → read_named k (read_name op.word) ≡ Some op
    read_word k (t.Name w) op e = read_again k w op e
    read_word k _ op e = absurd (cc)

    -- ---- what opens a level

    module _ (unary_fine : AllFine n place.Unary (Unary n)) where
      -- what opens a level is unary with a level more
      up : Within (Opened (Unary n) (Expression n)) (Unary (suc n))
      unfolding Unary
      up ts us e r = inl r

      -- form by form: what stands inside is shown with a level less, and the form's production reads both back
      opened_fine : AllFine (suc n) place.Unary (Opened (Unary n) (Expression n))
      opened_fine ts us e (inl r) g =
          let c = r.value in let v = r.second.value in
          let f = unary_fine r.middle r.second.middle v r.second.first (keep_one G _ ts r.middle c r.first g) in
          moved (suc n) place.Unary e (expr c (made.Negative v)) r.second.second.is
          (closed (suc n) (Negative (Unary n)) (λ xs ys x q. up xs ys x (inl q)) (expr c (made.Negative v)) _ _
          (at_negative (expr c (made.Negative v)) v refl) (bared_negative c v)
          (Productions.negative_back Good goods (Unary n) _ _ (f.here place.Unary (omega arith))))
      opened_fine ts us e (inr (inl r)) g =
          let c = r.value.0 in let v = r.value.1 in
          let i = inside_parens (Expression n) ts r.middle r.value r.first g in
          let f = inside n (canon.shown v) (bare v) (fine i.from i.to v i.derived i.good) in
          moved (suc n) place.Unary e (trees.grouped c v) r.second.is
          (as_shown (suc n) place.Unary (trees.grouped c v) (canon.shown v) (bare v) (shown_group c v) (bared_group c v) f)
      opened_fine ts us e (inr (inr (inl r))) g =
          let c = r.value in let v = r.second.value.1 in
          let b = shows_inside v (inside_parens (Expression n) r.middle r.second.middle r.second.value r.second.first (keep_one G _ ts r.middle c r.first g)) in
          moved (suc n) place.Unary e (expr c (made.Len v)) r.second.second.is
          (closed (suc n) (Len (Expression n)) (λ xs ys x q. up xs ys x (inr (inr (inl q)))) (expr c (made.Len v)) _ _
          (at_len (expr c (made.Len v)) v refl) (bared_len c v)
          (Productions.len_back Good goods (Expression n) _ _ b))
      opened_fine ts us e (inr (inr (inr (inl r)))) g =
          let c = r.value in let v = r.second.value.1 in
          let b = shows_inside v (inside_parens (Expression n) r.middle r.second.middle r.second.value r.second.first (keep_one G _ ts r.middle c r.first g)) in
          moved (suc n) place.Unary e (expr c (made.Str v)) r.second.second.is
          (closed (suc n) (Str (Expression n)) (λ xs ys x q. up xs ys x (inr (inr (inr (inl q))))) (expr c (made.Str v)) _ _
          (at_str (expr c (made.Str v)) v refl) (bared_str c v)
          (Productions.str_back Good goods (Expression n) _ _ b))
      opened_fine ts us e (inr (inr (inr (inr (inl r))))) g =
          let c = r.value in let es = r.second.value in
          let each = elements_shown r.middle r.second.middle es r.second.first (keep_one G _ ts r.middle c r.first g) in
          moved (suc n) place.Unary e (expr c (made.Texts es)) r.second.second.second.is
          (closed (suc n) (Texts (Expression n)) (λ xs ys x q. up xs ys x (inr (inr (inr (inr (inl q)))))) (expr c (made.Texts es)) _ _
          (at_texts (expr c (made.Texts es)) es refl) (bared_texts c es)
          (Productions.texts_back Good goods (Expression n) es each))
      opened_fine ts us e (inr (inr (inr (inr (inr r))))) g = read_fine ts us e r g
        where
          read_fine : AllFine (suc n) place.Unary (Read (Expression n))
          read_fine ts us e r g =
              let aim = aimed ts r.middle r.value r.first g in
              let op = r.second.value.1 in
              let es = r.second.second.value.1 in
              let behind = keep_targeted G _ (keep_expression G n) ts r.middle r.value r.first g in
              let found = subst (λ (x : Target). read_named x.kind (read_name op.word) ≡ Some op) aim.is
              (read_word r.value.kind r.second.first.item.token op (made_at (read_of r.value.kind) r.middle r.second.middle r.second.value r.second.first)) in
              let i = inside_parens (Arguments (Expression n) op.arguments) r.second.middle r.second.second.middle r.second.second.value r.second.second.first
              (keep_one G _ r.middle r.second.middle r.second.value r.second.first behind) in
              let all = arguments_shown op.arguments i.from i.to es i.derived i.good in
              let is : e ≡ expr aim.column (made.Read aim.kind aim.key op.word es) = r.second.second.second.is
              ∙ ap (λ (x : Target). read_expr x op.word es) aim.is in
              moved (suc n) place.Unary e (expr aim.column (made.Read aim.kind aim.key op.word es)) is
              (closed (suc n) (Read (Expression n)) (λ xs ys x q. up xs ys x (inr (inr (inr (inr (inr q))))))
              (expr aim.column (made.Read aim.kind aim.key op.word es)) _ _
              (at_read (expr aim.column (made.Read aim.kind aim.key op.word es)) aim.kind aim.key op.word es refl)
              (bared_read aim.column aim.kind aim.key op.word es)
              (Productions.read_back Good goods (Expression n) aim.kind op (expression aim.key) (bare aim.key) es aim.shown found (sym all.length) all.each))

  -- ---- chains

  -- operands of a rule, the next tighter, joined by operators of a rank
  module _ (n : ℕ) (r : Rank) (p q : Place) (tighter : tightness p ≤ tightness q) (up : Within (Chain r (rule_at n q)) (rule_at n p))
      (signs : (x : Symbol) (o : Operator) → operator_of r x ≡ Some o → (operator_of r (sign o) ≡ Some o) × (chain_place o ≡ p) × (operand_place o ≡ q))
      (fine : AllFine n q (rule_at n q)) (keep : Keeps G (rule_at n q)) where
    -- a symbol alone is an operator
    symbol_made : (x : Token) (o : Operator) → of_symbol (operator_of r) x ≡ Some o
        → (operator_of r (sign o) ≡ Some o) × (chain_place o ≡ p) × (operand_place o ≡ q)
    symbol_made (t.Symbol x) o e = signs x o e
    symbol_made _ o e = absurd (cc)

    -- a further operand
    record Joined (a : Operand) : Type 0 where
      place_is : chain_place (out-Operand a).operator ≡ p
      operand_is : operand_place (out-Operand a).operator ≡ q
      back : Back Good bare_operand (Further r (rule_at n q)) (further (shown_operand a)) (bare_operand a)

    -- the operator's sign means it, and the operand is shown at the place of its operands
    joined_at : (o : Operator) (e : Expr) → (operator_of r (sign o) ≡ Some o) × (chain_place o ≡ p) × (operand_place o ≡ q)
        → Fine n q (canon.shown e) (bare e) → Joined (operand o e)
    joined_at o e k f = record {
      place_is = k.1;
      operand_is = k.2;
      back = Productions.further_back Good goods r (rule_at n q) o e (canon.at (operand_place o) (canon.shown e)) k.0
          (subst (λ z. Back Good bare (rule_at n q) (canon.at z (canon.shown e)) (bare e)) (sym k.2) (f.here q (omega arith)));
    }

    -- the operator was made of a symbol, and the operand is derived behind it from good tokens
    joined : (ts us : List Spot) (a : Operand) → Further r (rule_at n q) ts a us → Each G ts → Joined a
    joined ts us a x g =
        let o = x.value.1 in
        let k = symbol_made x.first.item.token o (made_at (of_symbol (operator_of r)) ts x.middle x.value x.first) in
        let f = fine x.middle x.second.middle x.second.value x.second.first (keep_one G _ ts x.middle x.value x.first g) in
        subst Joined (sym x.second.second.is) (joined_at o x.second.value k f)

    -- one after another: what each leaves are good tokens
    all_joined : (ts us : List Spot) (os : List Operand) → Many (Further r (rule_at n q)) ts os us → Each G ts → Each Joined os
    all_joined ts us os (none ts') g = tt
    all_joined ts us os (more ts' us' vs' a rest x xs) g =
        (joined ts us' a x g, all_joined us' us rest xs (keep_further G r _ keep ts us' a x g))

    -- of each further operand, that it is read back
    backs : (os : List Operand) → Each Joined os
        → Each (λ a. Back Good bare_operand (Further r (rule_at n q)) (further (shown_operand a)) (bare_operand a)) os
    backs [] h = tt
    backs (a ∷ as_) h = (h.0.back, backs as_ h.1)

    -- further operands are shown one after another, and each is read back
    many_operands : (os : List Operand) → Each Joined os
        → Back Good (map bare_operand) (Many (Further r (rule_at n q))) (flat_map further (map shown_operand os)) (map bare_operand os)
    many_operands os h =
        subst (λ ps. Back Good (map bare_operand) (Many (Further r (rule_at n q))) ps (map bare_operand os))
        (sym (Productions.flat-map Good goods shown_operand further os))
        (many_back Good bare_operand (Further r (rule_at n q)) (λ a. further (shown_operand a)) os (backs os h))

    -- an operand alone is fine at a looser place; with others it is a chain, whose first operator gives its rank
    chain_with : (f : Expr) (os : List Operand) → Fine n q (canon.shown f) (bare f) → Each Joined os
        → Fine n p (canon.shown (chained (f, os))) (bare (chained (f, os)))
    chain_with f [] b h = looser n q p (canon.shown f) (bare f) tighter b
    chain_with f (o ∷ os) b h =
        let e = chained (f, o ∷ os) in
        let ps = canon.at q (canon.shown f) ++ flat_map further (map shown_operand (o ∷ os)) in
        let is : canon.shown e ≡ shown_as p ps =
        at_chain e f (o ∷ os) refl
        ∙ ap (λ z. shown_as z (canon.at (operand_place (out-Operand o).operator) (canon.shown f) ++ flat_map further (map shown_operand (o ∷ os)))) h.0.place_is
        ∙ ap (λ z. shown_as p (canon.at z (canon.shown f) ++ flat_map further (map shown_operand (o ∷ os)))) h.0.operand_is in
        as_shown n p e (shown_as p ps) (bare e) is refl
        (own n p p ps (bare e) (omega arith)
        (within Good bare (Chain r (rule_at n q)) (rule_at n p) ps (bare e) up
        (Productions.chain_back Good goods r (rule_at n q) (canon.at q (canon.shown f)) (flat_map further (map shown_operand (o ∷ os))) f (o ∷ os)
        (b.here q (omega arith)) (many_operands (o ∷ os) h))))

    -- the first operand is fine, and all further ones are joined to it
    pub chain_fine : AllFine n p (Chain r (rule_at n q))
    chain_fine ts us e x g =
        let l = x.first in
        let f = fine ts l.middle l.value l.first g in
        let h = all_joined l.middle l.second.middle l.second.value l.second.first (keep ts l.middle l.value l.first g) in
        moved n p e (chained (l.value, l.second.value)) (x.second.is ∙ ap chained l.second.second.is) (chain_with l.value l.second.value f h)

  -- an operator of a rank has a sign of that rank, its rule, and its operands' rule
  abbrev Signs : Rank → Place → Place → Operator → Type 0
  Signs r p q o = (operator_of r (sign o) ≡ Some o) × (chain_place o ≡ p) × (operand_place o ≡ q)

  -- the rank of disjunctions has `or` alone
  or_signs : (x : Symbol) (o : Operator) → operator_of rank.Disjunction x ≡ Some o
      → Signs rank.Disjunction place.Disjunction place.Conjunction o
  or_signs s.Or o e =
      let k : operator.Or ≡ o = cc in subst (λ z. Signs rank.Disjunction place.Disjunction place.Conjunction z) k (refl, refl, refl)
  or_signs _ o e = absurd (cc)

  -- the rank of conjunctions has `and` alone
  and_signs : (x : Symbol) (o : Operator) → operator_of rank.Conjunction x ≡ Some o
      → Signs rank.Conjunction place.Conjunction place.Negation o
  and_signs s.And o e =
      let k : operator.And ≡ o = cc in subst (λ z. Signs rank.Conjunction place.Conjunction place.Negation z) k (refl, refl, refl)
  and_signs _ o e = absurd (cc)

  -- the rank of sums has `+` and `-`, which have the same places
  sum_signs : (x : Symbol) (o : Operator) → operator_of rank.Sum x ≡ Some o → Signs rank.Sum place.Sum place.Product o
  sum_signs s.Plus o e = let k : operator.Plus ≡ o = cc in subst (λ z. Signs rank.Sum place.Sum place.Product z) k (refl, refl, refl)
  sum_signs s.Minus o e = let k : operator.Minus ≡ o = cc in subst (λ z. Signs rank.Sum place.Sum place.Product z) k (refl, refl, refl)
  sum_signs _ o e = absurd (cc)

  -- the rank of products has `*` alone
  product_signs : (x : Symbol) (o : Operator) → operator_of rank.Product x ≡ Some o → Signs rank.Product place.Product place.Unary o
  product_signs s.Times o e =
      let k : operator.Times ≡ o = cc in subst (λ z. Signs rank.Product place.Product place.Unary z) k (refl, refl, refl)
  product_signs _ o e = absurd (cc)

  -- ---- comparisons

  module _ (n : ℕ) (fine : AllFine n place.Sum (rule_at n place.Sum)) (keep : Keeps G (rule_at n place.Sum)) where
    -- a side alone is fine at a looser place; with another it is a comparison, whose sides are read back
    compare_with : (l : Expr) (m : Option (Relation × Expr)) → Fine n place.Sum (canon.shown l) (bare l)
        → ((x : Relation × Expr) → m ≡ Some x → Fine n place.Sum (canon.shown x.1) (bare x.1))
        → Fine n place.Comparison (canon.shown (compared l m)) (bare (compared l m))
    compare_with l None b h = looser n place.Sum place.Comparison (canon.shown l) (bare l) (omega arith) b
    compare_with l (Some x) b h =
        let e = compared l (Some x) in
        let ps = canon.at place.Sum (canon.shown l) ++ word (comparison x.0) ∷ canon.at place.Sum (canon.shown x.1) in
        as_shown n place.Comparison e (shown_as place.Comparison ps) _ (at_compare e l x.0 x.1 refl) (bared_compare _ l x.0 x.1)
        (own n place.Comparison place.Comparison ps _ (omega arith)
        (Productions.compare_back Good goods (rule_at n place.Sum) x.0 _ _ _ _ (b.here place.Sum (omega arith)) ((h x refl).here place.Sum (omega arith))))

    -- the other side, if there is one, is derived behind the relation's token from good tokens
    side_fine : (ts us : List Spot) (m : Option (Relation × Expr)) → Optional (OtherSide (rule_at n place.Sum)) ts m us → Each G ts
        → (x : Relation × Expr) → m ≡ Some x → Fine n place.Sum (canon.shown x.1) (bare x.1)
    side_fine ts us m (inl r) g x e =
        let y = r.first in
        let f = fine y.middle y.second.middle y.second.value y.second.first (keep_one G _ ts y.middle y.value y.first g) in
        let same : ◌≡◌ {A = Option (Relation × Expr)} (Some x) (Some r.value) = sym e ∙ r.second.is in
        let is : x ≡ r.value = cc in
        let to : x.1 ≡ y.second.value = ap (λ (z : Relation × Expr). z.1) (is ∙ y.second.second.is) in
        moved n place.Sum x.1 y.second.value to f
    side_fine ts us m (inr r) g x e = absurd (let k : ◌≡◌ {A = Option (Relation × Expr)} (Some x) None = sym e ∙ r.is in cc)

    -- the first side is fine, and so is the other one, if there is one
    compare_fine : AllFine n place.Comparison (Comparison (rule_at n place.Sum))
    compare_fine ts us e r g =
        let f = fine ts r.middle r.value r.first g in
        let h = side_fine r.middle r.second.middle r.second.value r.second.first (keep ts r.middle r.value r.first g) in
        moved n place.Comparison e (compared r.value r.second.value) r.second.second.is (compare_with r.value r.second.value f h)

  -- ---- from unary to comparison, and from negation to disjunction

  module _ (n : ℕ) (fine : AllFine n place.Unary (Unary n)) where
    -- unary ones joined by `*`
    product_fine : AllFine n place.Product (rule_at n place.Product)
    product_fine = chain_fine n rank.Product place.Product place.Unary (omega arith) (λ ts us e r. r) product_signs fine (keep_unary G n)

    -- products joined by `+` and `-`
    sum_fine : AllFine n place.Sum (rule_at n place.Sum)
    sum_fine =
        chain_fine n rank.Sum place.Sum place.Product (omega arith) (λ ts us e r. r) sum_signs product_fine (keep_chain G rank.Product _ (keep_unary G n))

    -- sums, compared
    comparison_fine : AllFine n place.Comparison (ComparisonOf (Unary n))
    comparison_fine = compare_fine n sum_fine (keep_chain G rank.Sum _ (keep_chain G rank.Product _ (keep_unary G n)))

  module _ (n : ℕ) (fine : AllFine n place.Negation (Negation n)) where
    -- negations joined by `and`
    conjunction_fine : AllFine n place.Conjunction (rule_at n place.Conjunction)
    conjunction_fine =
        chain_fine n rank.Conjunction place.Conjunction place.Negation (omega arith) (λ ts us e r. r) and_signs fine (keep_negation G n)

    -- conjunctions joined by `or`
    disjunction_fine : AllFine n place.Disjunction (Expression n)
    disjunction_fine =
        chain_fine n rank.Disjunction place.Disjunction place.Conjunction (omega arith) (λ ts us e r. r) or_signs conjunction_fine
        (keep_chain G rank.Conjunction _ (keep_negation G n))

  -- ---- level by level

  record Levels (n : ℕ) : Type 0 where
    unary : AllFine n place.Unary (Unary n)
    negation : AllFine n place.Negation (Negation n)

  -- a comparison where a `not` may stand
  loosened : (n : ℕ) → AllFine n place.Comparison (ComparisonOf (Unary n)) → AllFine n place.Negation (ComparisonOf (Unary n))
  loosened n fine ts us e r g = looser n place.Comparison place.Negation (canon.shown e) (bare e) (omega arith) (fine ts us e r g)

  -- with a level more, either something opens it, or there is a leaf, which needs none
  unary_at : (n : ℕ) → AllFine (suc n) place.Unary (Opened (Unary n) (Expression n)) → AllFine (suc n) place.Unary (Unary (suc n))
  unfolding Unary
  unary_at n fine ts us e (inl r) g = fine ts us e r g
  unary_at n fine ts us e (inr r) g = leaf_fine (suc n) (λ xs ys x q. inr q) ts us e r g

  -- what stands behind `not` has a level less and is shown where a `not` may stand; all else is a comparison
  negation_at : (n : ℕ) → AllFine n place.Negation (Negation n) → AllFine (suc n) place.Negation (ComparisonOf (Unary (suc n)))
      → AllFine (suc n) place.Negation (Negation (suc n))
  unfolding Unary
  negation_at n fine others ts us e (inl r) g =
      let c = r.value in let v = r.second.value in
      let f = fine r.middle r.second.middle v r.second.first (keep_one G _ ts r.middle c r.first g) in
      moved (suc n) place.Negation e (expr c (made.Not v)) r.second.second.is
      (as_shown (suc n) place.Negation (expr c (made.Not v)) _ _ (at_not (expr c (made.Not v)) v refl) (bared_not c v)
      (own (suc n) place.Negation place.Negation _ _ (omega arith)
      (within Good bare (Not (Negation n)) (Negation (suc n)) _ _ (λ xs ys x q. inl q)
      (Productions.not_back Good goods (Negation n) _ _ (f.here place.Negation (omega arith))))))
  negation_at n fine others ts us e (inr r) g = others ts us e r g

  -- without levels there are only leaves
  unary_zero : AllFine zero place.Unary (Unary zero)
  unfolding Unary
  unary_zero ts us e r g = leaf_fine zero (λ xs ys x q. q) ts us e r g

  -- without levels there is no `not`, so each is a comparison of leaves
  negation_zero : AllFine zero place.Negation (Negation zero)
  unfolding Unary
  negation_zero ts us e r g = loosened zero (comparison_fine zero unary_zero) ts us e r g

  -- level by level: a unary has in it what is fine with a level less, and comparisons are built up from the unary ones
  levels : (n : ℕ) → Levels n
  levels zero = record { unary = unary_zero; negation = negation_zero }
  levels (suc n) =
      let l = levels n in
      let u : AllFine (suc n) place.Unary (Unary (suc n)) = unary_at n (opened_fine n (disjunction_fine n l.negation) l.unary) in
      record { unary = u; negation = negation_at n l.negation (loosened (suc n) (comparison_fine (suc n) u)) }

  -- every expression that the grammar derives
  pub expression_fine : (n : ℕ) → AllFine n place.Disjunction (Expression n)
  expression_fine n = disjunction_fine n (levels n).negation
