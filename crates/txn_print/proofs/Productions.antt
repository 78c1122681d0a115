-- Productions of the grammar, read back part by part.
use Rattle.std.proofs.Common.{◌≡◌, ℕ, ℤ, Bool, true, false, cond, List, [], ◌∷◌, ◌++◌, map, length, Option, Some, None}
use Rattle.std.proofs.Common.{refl, ap, sym, ◌∙◌, subst, inl, inr, append-nil}
use Rattle.std.specs.List.{flat_map}
use Rattle.std.specs.Option.{option_map}
use denote.Enum.Bare.{true_same}
use Rattle.rdt_types.specs.declared.address.Kind.{Kind}
use Rattle.rdt_types.specs.declared.address.Kind.TheVariants as kind
use Rattle.predictive_parsing.specs.Rules.{Rule, One, Then, Pure, Or, Many, ListOf, Optional, ◌>>=◌}
use Rattle.plain_data.specs.Texts.{Bytes}
use Rattle.txn_trees.specs.declared.expression.Expr.{Expr}
use Rattle.txn_trees.specs.declared.expression.ExprNode.TheVariants as made
use Rattle.txn_trees.specs.declared.expression.Operand.{Operand}
use Rattle.txn_trees.specs.declared.word.Operator.{Operator}
use Rattle.txn_trees.specs.declared.word.Relation.{Relation}
use Rattle.txn_trees.specs.declared.word.Relation.TheVariants as relation
use Rattle.txn_trees.specs.declared.word.ReadWord.{ReadWord}
use Rattle.txn_trees.specs.declared.word.WriteWord.{WriteWord}
use Rattle.txn_grammar.specs.declared.rank.Rank.{Rank}
use Rattle.txn_grammar.specs.declared.symbol.Symbol.{Symbol}
use Rattle.txn_grammar.specs.declared.symbol.Symbol.TheVariants as s
use Rattle.txn_grammar.specs.contracts.symbol.Symbol.{the_type}
use Rattle.txn_grammar.specs.declared.operation.Operation.{Operation}
use Rattle.txn_grammar.specs.declared.target.Target.{Target}
use Rattle.txn_grammar.specs.declared.token.Token.{Token}
use Rattle.txn_grammar.specs.declared.token.Token.TheVariants as t
use Rattle.txn_grammar.specs.declared.token.Spot.{Spot}
use Rattle.txn_grammar.specs.Spellings.{same_symbol}
use Rattle.txn_grammar.specs.Tokens.{at, symbol_at, is_symbol, of_symbol, number, text, name, truth_of, operator_of, relation_of, kind_of, read_of, read_named}
use Rattle.txn_grammar.specs.Trees.{expr, number_expr, text_expr, truth_expr, name_expr, operand, chained, compared, target_of, read_expr}
use Rattle.txn_grammar.specs.Trees as trees
use Rattle.txn_grammar.specs.Grammar.{Word, NumberLeaf, TextLeaf, TruthLeaf, NameLeaf, Further, Chain, OtherSide}
use Rattle.txn_grammar.specs.Grammar.{Comparison, Negative, Not, InParens, Group, Len, Str, AfterComma, Elements, Texts}
use Rattle.txn_grammar.specs.Grammar.{Times, Arguments, Targeted, Read}
use Rattle.txn_print.specs.Pieces.{Piece, spaced, opening, closing, joining, word}
use Rattle.txn_print.specs.Canonical.{grouped, given, after_comma, separated, target, request, kind_symbol, sign}
use Rattle.txn_print.specs.Canonical.{comparison, truth, read_name, write_name, expression}
use Rattle.txn_print.specs.Columns.{bare}
use Rattle.txn_print.proofs.Erased.{bare_operand, bared_group, bared_number, bared_text, bared_bool, bared_name}
use Rattle.txn_print.proofs.Erased.{bared_texts, bared_len, bared_str, bared_negative, bared_not, bared_compare}
use Rattle.txn_print.proofs.Erased.{bared_chain, bared_read}
use Rattle.txn_print.proofs.Back.{Back, Each, within, pure_back, one_back, then_back, mapped_back, many_back}

-- ---- what is seen of parts

-- of a word nothing is seen, since it has nothing but a column
abbrev pub no_column : ℕ → Unit {0}
no_column c = tt

-- of what was taken with its column the value is seen
abbrev pub value_of : {A : Type 0} → ℕ × A → A
value_of a = a.1

-- of a target its kind is seen, and its key without columns
abbrev pub bare_target : Target → Kind × Expr
bare_target t = (t.kind, bare t.key)

-- of a list of operands each is seen without columns
abbrev pub bare_list : Expr × List Operand → Expr × List Operand
bare_list l = (bare l.0, map bare_operand l.1)

-- of another side its relation is seen, and the side without columns
abbrev pub bare_side : Relation × Expr → Relation × Expr
bare_side l = (l.0, bare l.1)

-- What is said of the tokens of a text: each that is no word or mark of the language is good, and so are all words and
-- marks as they stand in printed text.
pub record Goods (Good : Piece → Type 0) : Type 0 where
  pub words : (symbol : Symbol) → Good (word symbol)
  pub open_paren : Good (opening s.OpenParen)
  pub open_bracket : Good (opening s.OpenBracket)
  pub minus : Good (opening s.Minus)
  pub close_paren : Good (closing s.CloseParen)
  pub close_bracket : Good (closing s.CloseBracket)
  pub comma : Good (closing s.Comma)
  pub semicolon : Good (closing s.Semicolon)
  pub call : Good (joining s.OpenParen)
  pub dot : Good (joining s.Dot)
  pub reads : (w : ReadWord) → Good (spaced (t.Name (read_name w)))
  pub writes : (w : WriteWord) → Good (spaced (t.Name (write_name w)))

-- the test on symbols says true of each one and itself
same_self : (symbol : Symbol) → same_symbol symbol symbol ≡ true
unfolding same_symbol
same_self symbol = true_same the_type symbol symbol refl

module _ (Good : Piece → Type 0) where
  -- a word or a mark
  pub word_back : (symbol : Symbol) (piece : Piece) → Good piece → piece.token ≡ t.Symbol symbol
      → Back Good no_column (Word symbol) (piece ∷ []) tt
  word_back symbol piece g e = one_back Good no_column (symbol_at symbol) piece tt g (λ spot h. record {
    value = spot.column;
    made = ap (λ x. cond (is_symbol symbol x) (Some spot.column) None) (h ∙ e) ∙ ap (λ b. cond b (Some spot.column) None) (same_self symbol);
    alike = refl;
  })

  -- what f makes of a token
  pub at_back : {A : Type 0} (f : Token → Option A) (piece : Piece) (a : A) → Good piece → f piece.token ≡ Some a
      → Back Good value_of (One (at f)) (piece ∷ []) a
  at_back f piece a g e = one_back Good value_of (at f) piece a g (λ spot h. record {
    value = (spot.column, a);
    made = ap (option_map (λ x. (spot.column, x))) (ap f h ∙ e);
    alike = refl;
  })

  -- a leaf
  leaf_back : {A : Type 0} (f : Token → Option A) (g : ℕ × A → Expr) (piece : Piece) (a : A) (w : Expr) → Good piece
      → f piece.token ≡ Some a → ((c : ℕ) → bare (g (c, a)) ≡ w) → Back Good bare (Then (One (at f)) (λ x. Pure (g x))) (piece ∷ []) w
  leaf_back f g piece a w k e h =
      mapped_back Good value_of bare (One (at f)) g (piece ∷ []) a w (at_back f piece a k e) (λ x i. ap (λ y. bare (g (x.0, y))) i ∙ h x.0)

  -- the one token of a number is a leaf
  pub number_back : (v : ℤ) → Good (spaced (t.Number v)) → Back Good bare NumberLeaf (spaced (t.Number v) ∷ []) (expr 0 (made.Number v))
  number_back v g = leaf_back number number_expr (spaced (t.Number v)) v _ g refl (λ c. bared_number c v)

  -- the one token of a text is a leaf
  pub text_back : (b : Bytes) → Good (spaced (t.Text b)) → Back Good bare TextLeaf (spaced (t.Text b) ∷ []) (expr 0 (made.Text b))
  text_back b g = leaf_back text text_expr (spaced (t.Text b)) b _ g refl (λ c. bared_text c b)

  -- the one token of a name is a leaf
  pub name_back : (w : Bytes) → Good (spaced (t.Name w)) → Back Good bare NameLeaf (spaced (t.Name w) ∷ []) (expr 0 (made.Name w))
  name_back w g = leaf_back name name_expr (spaced (t.Name w)) w _ g refl (λ c. bared_name c w)

  -- each of the two words means the truth value that it is printed for
  truth-truth : (b : Bool) → truth_of (truth b) ≡ Some b
  truth-truth true = refl
  truth-truth false = refl

  -- the word of a truth value is a leaf, since it means that value
  pub truth_back : (b : Bool) → Good (word (truth b)) → Back Good bare TruthLeaf (word (truth b) ∷ []) (expr 0 (made.Bool b))
  truth_back b g = leaf_back (of_symbol truth_of) truth_expr (word (truth b)) b _ g (truth-truth b) (λ c. bared_bool c b)

  module _ (goods : Goods Good) where
    -- in parentheses, which stand behind a space or not
    pub parens_back : {A B : Type 0} (e : A → B) (P : Rule Spot A) (before : Piece) (ps : List Piece) (w : B) → Good before
        → before.token ≡ t.Symbol s.OpenParen
        → Back Good e P ps w → Back Good (λ (a : ℕ × A). e a.1) (InParens P) (before ∷ (ps ++ closing s.CloseParen ∷ [])) w
    parens_back {A} {B} e P before ps w g h b =
        let seen : ℕ × A → B = λ a. e a.1 in
        then_back Good no_column seen (Word s.OpenParen) (λ c. P >>= λ a. Word s.CloseParen >>= λ d. Pure (c, a)) (before ∷ [])
        (ps ++ closing s.CloseParen ∷ []) tt w
        (word_back s.OpenParen before g h)
        (λ c i. then_back Good e seen P (λ a. Word s.CloseParen >>= λ d. Pure (c, a)) ps (closing s.CloseParen ∷ []) w w b
        (λ a j. mapped_back Good no_column seen (Word s.CloseParen) (λ d. (c, a)) (closing s.CloseParen ∷ []) tt w
        (word_back s.CloseParen (closing s.CloseParen) goods.close_paren refl) (λ d k. j)))

    -- the opening parenthesis is joined to what stands before it
    pub given_back : {A B : Type 0} (e : A → B) (P : Rule Spot A) (ps : List Piece) (w : B) → Back Good e P ps w
        → Back Good (λ (a : ℕ × A). e a.1) (InParens P) (given ps) w
    given_back e P ps w b = parens_back e P (joining s.OpenParen) ps w goods.call refl b

    -- the opening parenthesis stands behind a space, and a group shows no trace of it
    pub group_back : (E : Rule Spot Expr) (ps : List Piece) (w : Expr) → Back Good bare E ps w → Back Good bare (Group E) (grouped ps) w
    group_back E ps w b =
        mapped_back Good (λ (a : ℕ × Expr). bare a.1) bare (InParens E) (λ a. trees.grouped a.0 a.1) (grouped ps) w w
        (parens_back bare E (opening s.OpenParen) ps w goods.open_paren refl b) (λ a h. bared_group a.0 a.1 ∙ h)

    -- the mark and then the value; the column isn't seen
    pub negative_back : (U : Rule Spot Expr) (ps : List Piece) (w : Expr) → Back Good bare U ps w
        → Back Good bare (Negative U) (opening s.Minus ∷ ps) (expr 0 (made.Negative w))
    negative_back U ps w b =
        then_back Good no_column bare (Word s.Minus) (λ c. U >>= λ v. Pure (expr c (made.Negative v))) (opening s.Minus ∷ []) ps tt _
        (word_back s.Minus (opening s.Minus) goods.minus refl)
        (λ c i. mapped_back Good bare bare U (λ v. expr c (made.Negative v)) ps w _ b (λ v h. bared_negative c v ∙ ap (λ x. expr 0 (made.Negative x)) h))

    -- the word and then the value
    pub not_back : (N : Rule Spot Expr) (ps : List Piece) (w : Expr) → Back Good bare N ps w
        → Back Good bare (Not N) (word s.Not ∷ ps) (expr 0 (made.Not w))
    not_back N ps w b =
        then_back Good no_column bare (Word s.Not) (λ c. N >>= λ v. Pure (expr c (made.Not v))) (word s.Not ∷ []) ps tt _
        (word_back s.Not (word s.Not) (goods.words s.Not) refl)
        (λ c i. mapped_back Good bare bare N (λ v. expr c (made.Not v)) ps w _ b (λ v h. bared_not c v ∙ ap (λ x. expr 0 (made.Not x)) h))

    -- the word and then the argument in parentheses
    pub len_back : (E : Rule Spot Expr) (ps : List Piece) (w : Expr) → Back Good bare E ps w
        → Back Good bare (Len E) (word s.Len ∷ given ps) (expr 0 (made.Len w))
    len_back E ps w b =
        then_back Good no_column bare (Word s.Len) (λ c. InParens E >>= λ a. Pure (expr c (made.Len a.1))) (word s.Len ∷ []) (given ps) tt _
        (word_back s.Len (word s.Len) (goods.words s.Len) refl)
        (λ c i. mapped_back Good (λ (a : ℕ × Expr). bare a.1) bare (InParens E) (λ a. expr c (made.Len a.1)) (given ps) w _
        (given_back bare E ps w b) (λ a h. bared_len c a.1 ∙ ap (λ x. expr 0 (made.Len x)) h))

    -- the word and then the argument in parentheses
    pub str_back : (E : Rule Spot Expr) (ps : List Piece) (w : Expr) → Back Good bare E ps w
        → Back Good bare (Str E) (word s.Str ∷ given ps) (expr 0 (made.Str w))
    str_back E ps w b =
        then_back Good no_column bare (Word s.Str) (λ c. InParens E >>= λ a. Pure (expr c (made.Str a.1))) (word s.Str ∷ []) (given ps) tt _
        (word_back s.Str (word s.Str) (goods.words s.Str) refl)
        (λ c i. mapped_back Good (λ (a : ℕ × Expr). bare a.1) bare (InParens E) (λ a. expr c (made.Str a.1)) (given ps) w _
        (given_back bare E ps w b) (λ a h. bared_str c a.1 ∙ ap (λ x. expr 0 (made.Str x)) h))

    -- ---- comparisons

    -- each relation's symbol means that relation
    relation-comparison : (r : Relation) → relation_of (comparison r) ≡ Some r
    relation-comparison relation.Equal = refl
    relation-comparison relation.Unequal = refl
    relation-comparison relation.Less = refl
    relation-comparison relation.AtMost = refl
    relation-comparison relation.Greater = refl
    relation-comparison relation.AtLeast = refl

    -- the first side, the symbol and the other side, one after another
    pub compare_back : (S : Rule Spot Expr) (r : Relation) (ls rs : List Piece) (l w : Expr) → Back Good bare S ls l → Back Good bare S rs w
        → Back Good bare (Comparison S) (ls ++ word (comparison r) ∷ rs) (expr 0 (made.Compare l r w))
    compare_back S r ls rs l w b k =
        then_back Good bare bare S (λ a. Optional (OtherSide S) >>= λ m. Pure (compared a m)) ls (word (comparison r) ∷ rs) l _ b
        (λ a h. mapped_back Good (option_map bare_side) bare (Optional (OtherSide S)) (λ m. compared a m) (word (comparison r) ∷ rs) (Some (r, w)) _
        (within Good (option_map bare_side) (OtherSide S >>= λ x. Pure (Some x)) (Optional (OtherSide S)) _ _ (λ ts us x y. inl y)
        (mapped_back Good bare_side (option_map bare_side) (OtherSide S) (λ x. Some x) (word (comparison r) ∷ rs) (r, w) (Some (r, w)) side
        (λ x i. ap (λ y. Some y) i)))
        (λ m i. both a m h i))
      where
        side : Back Good bare_side (OtherSide S) (word (comparison r) ∷ rs) (r, w)
        side =
            then_back Good value_of bare_side (One (at (of_symbol relation_of))) (λ x. S >>= λ y. Pure (x.1, y)) (word (comparison r) ∷ []) rs r (r, w)
            (at_back (of_symbol relation_of) (word (comparison r)) r (goods.words (comparison r)) (relation-comparison r))
            (λ x i. mapped_back Good bare bare_side S (λ y. (x.1, y)) rs w (r, w) k (λ y j. ap (λ z. (z, bare y)) i ∙ ap (λ z. (r, z)) j))

        both : (a : Expr) (m : Option (Relation × Expr)) → bare a ≡ l → option_map bare_side m ≡ Some (r, w)
            → bare (compared a m) ≡ expr 0 (made.Compare l r w)
        both a None h i = absurd (cc)
        both a (Some x) h i =
            let j : bare_side x ≡ (r, w) = cc in
            bared_compare _ a x.0 x.1 ∙ ap (λ y. expr 0 (made.Compare y x.0 (bare x.1))) h ∙ ap (λ (y : Relation × Expr). expr 0 (made.Compare l y.0 y.1)) j

    -- ---- chains

    -- both have no further operands and are their first, or both have some and are chains with the same parts
    pub chained_alike : (f g : Expr) (os ps : List Operand) → bare f ≡ bare g → map bare_operand os ≡ map bare_operand ps
        → bare (chained (f, os)) ≡ bare (chained (g, ps))
    chained_alike f g [] [] h i = h
    chained_alike f g [] (p ∷ ps) h i = absurd (cc)
    chained_alike f g (o ∷ os) [] h i = absurd (cc)
    chained_alike f g (o ∷ os) (p ∷ ps) h i =
        bared_chain _ f (o ∷ os)
        ∙ ap (λ x. expr 0 (made.Chain x (map bare_operand (o ∷ os)))) h
        ∙ ap (λ xs. expr 0 (made.Chain (bare g) xs)) i
        ∙ sym (bared_chain _ g (p ∷ ps))

    -- the operator's sign, which means it, and then the operand
    pub further_back : (r : Rank) (P : Rule Spot Expr) (o : Operator) (e : Expr) (ps : List Piece) → operator_of r (sign o) ≡ Some o
        → Back Good bare P ps (bare e)
        → Back Good bare_operand (Further r P) (word (sign o) ∷ ps) (bare_operand (operand o e))
    further_back r P o e ps k b =
        then_back Good value_of bare_operand (One (at (of_symbol (operator_of r)))) (λ x. P >>= λ v. Pure (operand x.1 v)) (word (sign o) ∷ []) ps o _
        (at_back (of_symbol (operator_of r)) (word (sign o)) o (goods.words (sign o)) k)
        (λ x i. mapped_back Good bare bare_operand P (λ v. operand x.1 v) ps (bare e) _ b (λ v j. ap (λ y. operand y (bare v)) i ∙ ap (λ y. operand o y) j))

    -- the first operand and then the further ones; chains go by their parts
    pub chain_back : (r : Rank) (P : Rule Spot Expr) (fs rs : List Piece) (f : Expr) (os : List Operand)
        → Back Good bare P fs (bare f) → Back Good (map bare_operand) (Many (Further r P)) rs (map bare_operand os)
        → Back Good bare (Chain r P) (fs ++ rs) (bare (chained (f, os)))
    chain_back r P fs rs f os b m =
        mapped_back Good bare_list bare (ListOf P (Further r P)) chained (fs ++ rs) (bare f, map bare_operand os) _
        (then_back Good bare bare_list P (λ a. Many (Further r P) >>= λ rest. Pure (a, rest)) fs rs (bare f) _ b
        (λ a h. mapped_back Good (map bare_operand) bare_list (Many (Further r P)) (λ rest. (a, rest)) rs (map bare_operand os) _ m
        (λ rest k. ap (λ x. (x, map bare_operand rest)) h ∙ ap (λ x. (bare f, x)) k)))
        (λ l h. chained_alike l.0 f l.1 os (ap (λ p. p.0) h) (ap (λ p. p.1) h))

    -- ---- lists of expressions

    -- the comma and then the expression
    pub comma_back : (E : Rule Spot Expr) (ps : List Piece) (w : Expr) → Back Good bare E ps w
        → Back Good bare (AfterComma E) (after_comma ps) w
    comma_back E ps w b =
        then_back Good no_column bare (Word s.Comma) (λ c. E) (closing s.Comma ∷ []) ps tt w
        (word_back s.Comma (closing s.Comma) goods.comma refl) (λ c i. b)

    -- one after another, each behind its comma
    pub times_back : (E : Rule Spot Expr) (es : List Expr) → Each (λ e. Back Good bare E (expression e) (bare e)) es
        → Back Good (map bare) (Times (AfterComma E) (length es)) (flat_map after_comma (map expression es)) (map bare es)
    times_back E [] h = pure_back Good (map bare) [] [] refl
    times_back E (e ∷ es) h =
        then_back Good bare (map bare) (AfterComma E) (λ a. Times (AfterComma E) (length es) >>= λ rest. Pure (a ∷ rest))
        (after_comma (expression e)) (flat_map after_comma (map expression es)) (bare e) (map bare (e ∷ es))
        (comma_back E (expression e) (bare e) h.0)
        (λ a i. mapped_back Good (map bare) (map bare) (Times (AfterComma E) (length es)) (λ rest. a ∷ rest)
        (flat_map after_comma (map expression es)) (map bare es) _
        (times_back E es h.1) (λ rest j. ap (λ x. x ∷ map bare rest) i ∙ ap (λ xs. bare e ∷ xs) j))

    -- as many arguments as there are
    pub arguments_back : (E : Rule Spot Expr) (es : List Expr) → Each (λ e. Back Good bare E (expression e) (bare e)) es
        → Back Good (map bare) (Arguments E (length es)) (separated (map expression es)) (map bare es)
    arguments_back E [] h = pure_back Good (map bare) [] [] refl
    arguments_back E (e ∷ es) h =
        then_back Good bare (map bare) E (λ a. Times (AfterComma E) (length es) >>= λ rest. Pure (a ∷ rest))
        (expression e) (flat_map after_comma (map expression es)) (bare e) (map bare (e ∷ es)) h.0
        (λ a i. mapped_back Good (map bare) (map bare) (Times (AfterComma E) (length es)) (λ rest. a ∷ rest)
        (flat_map after_comma (map expression es)) (map bare es) _
        (times_back E es h.1) (λ rest j. ap (λ x. x ∷ map bare rest) i ∙ ap (λ xs. bare e ∷ xs) j))

    -- each is read back behind a comma
    commas_back : (E : Rule Spot Expr) (es : List Expr) → Each (λ e. Back Good bare E (expression e) (bare e)) es
        → Each (λ e. Back Good bare (AfterComma E) (after_comma (expression e)) (bare e)) es
    commas_back E [] h = tt
    commas_back E (e ∷ es) h = (comma_back E (expression e) (bare e) h.0, commas_back E es h.1)

    -- element by element: it doesn't matter whether f goes before or along
    pub flat-map : {A B C : Type 0} (f : A → B) (g : B → List C) (xs : List A) → flat_map g (map f xs) ≡ flat_map (λ x. g (f x)) xs
    flat-map f g [] = refl
    flat-map f g (x ∷ xs) = ap (λ ys. g (f x) ++ ys) (flat-map f g xs)

    -- one element or more
    elements_back : (E : Rule Spot Expr) (e : Expr) (es : List Expr) → Each (λ e. Back Good bare E (expression e) (bare e)) (e ∷ es)
        → Back Good (map bare) (Elements E) (separated (map expression (e ∷ es))) (map bare (e ∷ es))
    elements_back E e es h =
        let seen : Expr × List Expr → Expr × List Expr = λ l. (bare l.0, map bare l.1) in
        mapped_back Good seen (map bare) (ListOf E (AfterComma E)) (λ l. l.0 ∷ l.1) (separated (map expression (e ∷ es))) (bare e, map bare es) _
        (then_back Good bare seen E (λ a. Many (AfterComma E) >>= λ rest. Pure (a, rest)) (expression e) (flat_map after_comma (map expression es))
        (bare e) _ h.0
        (λ a i. mapped_back Good (map bare) seen (Many (AfterComma E)) (λ rest. (a, rest)) (flat_map after_comma (map expression es)) (map bare es) _
        (subst (λ ps. Back Good (map bare) (Many (AfterComma E)) ps (map bare es)) (sym (flat-map expression after_comma es))
        (many_back Good bare (AfterComma E) (λ x. after_comma (expression x)) es (commas_back E es h.1)))
        (λ rest j. ap (λ x. (x, map bare rest)) i ∙ ap (λ x. (bare e, x)) j)))
        (λ l i. ap (λ (p : Expr × List Expr). p.0 ∷ p.1) i)

    -- any number of elements
    inside_back : (E : Rule Spot Expr) (es : List Expr) → Each (λ e. Back Good bare E (expression e) (bare e)) es
        → Back Good (map bare) (Or (Elements E) (Pure [])) (separated (map expression es)) (map bare es)
    inside_back E [] h =
        within Good (map bare) (Pure []) (Or (Elements E) (Pure [])) [] [] (λ ts us a x. inr x) (pure_back Good (map bare) [] [] refl)
    inside_back E (e ∷ es) h =
        within Good (map bare) (Elements E) (Or (Elements E) (Pure [])) _ _ (λ ts us a x. inl x) (elements_back E e es h)

    -- the brackets, and elements between them, or none
    pub texts_back : (E : Rule Spot Expr) (es : List Expr) → Each (λ e. Back Good bare E (expression e) (bare e)) es
        → Back Good bare (Texts E) (opening s.OpenBracket ∷ (separated (map expression es) ++ closing s.CloseBracket ∷ [])) (expr 0 (made.Texts (map bare es)))
    texts_back E es h =
        then_back Good no_column bare (Word s.OpenBracket) (λ c. Or (Elements E) (Pure []) >>= λ xs. Word s.CloseBracket >>= λ d. Pure (expr c (made.Texts xs)))
        (opening s.OpenBracket ∷ []) (separated (map expression es) ++ closing s.CloseBracket ∷ []) tt _
        (word_back s.OpenBracket (opening s.OpenBracket) goods.open_bracket refl)
        (λ c i. then_back Good (map bare) bare (Or (Elements E) (Pure [])) (λ xs. Word s.CloseBracket >>= λ d. Pure (expr c (made.Texts xs)))
        (separated (map expression es)) (closing s.CloseBracket ∷ []) (map bare es) _
        (inside_back E es h)
        (λ xs j. mapped_back Good no_column bare (Word s.CloseBracket) (λ d. expr c (made.Texts xs)) (closing s.CloseBracket ∷ []) tt _
        (word_back s.CloseBracket (closing s.CloseBracket) goods.close_bracket refl) (λ d k. bared_texts c xs ∙ ap (λ ys. expr 0 (made.Texts ys)) j)))

    -- ---- operations

    -- each kind's word means that kind
    kind-symbol : (k : Kind) → kind_of (kind_symbol k) ≡ Some k
    kind-symbol kind.Bool = refl
    kind-symbol kind.Counter = refl
    kind-symbol kind.Text = refl
    kind-symbol kind.Set = refl
    kind-symbol kind.Hash = refl
    kind-symbol kind.List = refl
    kind-symbol kind.Peak = refl

    -- the kind's word, the key in parentheses, and the dot, one after another
    pub targeted_back : (E : Rule Spot Expr) (k : Kind) (ps : List Piece) (w : Expr) → Back Good bare E ps w
        → Back Good bare_target (Targeted E) (target k ps) (k, w)
    targeted_back E k ps w b =
        then_back Good value_of bare_target (One (at (of_symbol kind_of))) (λ x. InParens E >>= λ key. Word s.Dot >>= λ d. Pure (target_of x key.1))
        (word (kind_symbol k) ∷ []) (given ps ++ joining s.Dot ∷ []) k _
        (at_back (of_symbol kind_of) (word (kind_symbol k)) k (goods.words (kind_symbol k)) (kind-symbol k))
        (λ x i. then_back Good (λ (a : ℕ × Expr). bare a.1) bare_target (InParens E) (λ key. Word s.Dot >>= λ d. Pure (target_of x key.1)) (given ps)
        (joining s.Dot ∷ []) w _
        (given_back bare E ps w b)
        (λ key j. mapped_back Good no_column bare_target (Word s.Dot) (λ d. target_of x key.1) (joining s.Dot ∷ []) tt _
        (word_back s.Dot (joining s.Dot) goods.dot refl)
        (λ d m. ap (λ y. (y, bare key.1)) i ∙ ap (λ y. (k, y)) j)))

    -- the word of an operation, as many arguments as it takes, and what follows
    pub request_then : {W A B : Type 0} (find : Kind → Token → Option (Operation W)) (k : Kind) (op : Operation W) (n : Bytes) (E : Rule Spot Expr)
        (es : List Expr)
        → Good (spaced (t.Name n)) → find k (t.Name n) ≡ Some op → op.arguments ≡ length es → Each (λ e. Back Good bare E (expression e) (bare e)) es
        → (e : A → B) (K : Operation W → List Expr → Rule Spot A) (qs : List Piece) (w : B)
        → ((as_ : List Expr) → map bare as_ ≡ map bare es → Back Good e (K op as_) qs w)
        → Back Good e (One (at (find k)) >>= λ x. InParens (Arguments E x.1.arguments) >>= λ as_. K x.1 as_.1) (request n (map expression es) ++ qs) w
    request_then {W} find k op n E es g h count each e K qs w same =
        then_back Good value_of e (One (at (find k))) (λ x. InParens (Arguments E x.1.arguments) >>= λ as_. K x.1 as_.1) (spaced (t.Name n) ∷ [])
        (given (separated (map expression es)) ++ qs) op w
        (at_back (find k) (spaced (t.Name n)) op g h)
        (λ x i. subst (λ (o : Operation W). Back Good e (InParens (Arguments E o.arguments) >>= λ as_. K o as_.1)
        (given (separated (map expression es)) ++ qs) w) (sym i)
        (then_back Good (λ (a : ℕ × List Expr). map bare a.1) e (InParens (Arguments E op.arguments)) (λ as_. K op as_.1)
        (given (separated (map expression es))) qs (map bare es) w
        (given_back (map bare) (Arguments E op.arguments) (separated (map expression es)) (map bare es)
        (subst (λ m. Back Good (map bare) (Arguments E m) (separated (map expression es)) (map bare es)) (sym count) (arguments_back E es each)))
        (λ a j. same a.1 j)))

    -- the target, and then the word with its arguments
    pub read_back : (E : Rule Spot Expr) (k : Kind) (op : Operation ReadWord) (ps : List Piece) (w : Expr) (es : List Expr)
        → Back Good bare E ps w → read_named k (read_name op.word) ≡ Some op → op.arguments ≡ length es
        → Each (λ e. Back Good bare E (expression e) (bare e)) es
        → Back Good bare (Read E) (target k ps ++ request (read_name op.word) (map expression es)) (expr 0 (made.Read k w op.word (map bare es)))
    read_back E k op ps w es b h count each =
        subst (λ qs. Back Good bare (Read E) (target k ps ++ qs) (expr 0 (made.Read k w op.word (map bare es))))
        (append-nil (request (read_name op.word) (map expression es)))
        (then_back Good bare_target bare (Targeted E)
        (λ x. One (at (read_of x.kind)) >>= λ o. InParens (Arguments E o.1.arguments) >>= λ as_. Pure (read_expr x o.1.word as_.1))
        (target k ps) (request (read_name op.word) (map expression es) ++ []) (k, w) _ (targeted_back E k ps w b)
        (λ x i. request_then read_of x.kind op (read_name op.word) E es (goods.reads op.word) (ap (λ y. read_named y.0 (read_name op.word)) i ∙ h) count each
        bare (λ o as_. Pure (read_expr x o.word as_)) [] _
        (λ as_ j. pure_back Good bare (read_expr x op.word as_) _
        (bared_read x.column x.kind x.key op.word as_ ∙ ap (λ (y : Kind × Expr). expr 0 (made.Read y.0 y.1 op.word (map bare as_))) i
        ∙ ap (λ ys. expr 0 (made.Read k w op.word ys)) j))))
