-- Expressions: each production is read as its rule says.
use Rattle.std.proofs.Common.{◌≡◌, ℕ, zero, suc, Bool, true, not, ◌||◌, List, ◌∷◌, [], Option, Some, None, refl, ap, ◌∙◌, inl, inr}
use Rattle.txn_trees.specs.declared.expression.Expr.{Expr}
use Rattle.txn_trees.specs.declared.expression.ExprNode.TheVariants as node
use Rattle.txn_trees.specs.declared.word.Relation.{Relation}
use Rattle.predictive_parsing.specs.Reading.{Reader, next, turns, is_made, begins, pure}
use Rattle.predictive_parsing.specs.Rules.{Rule, One, Pure, Or, Optional}
use Rattle.predictive_parsing.specs.Fits.{Fits, any, unless}
use Rattle.predictive_parsing.proofs.Basic.{both}
use Rattle.predictive_parsing.proofs.Combined.{one_begins, seen, onwards, followed, narrowed, either_fits, optional_fits, pure_fits}
use Rattle.predictive_parsing.proofs.Lists.{list_fits}
use Rattle.txn_grammar.specs.declared.rank.Rank.{Rank}
use Rattle.txn_grammar.specs.declared.rank.Rank.TheVariants as rank
use Rattle.txn_grammar.specs.declared.form.Leaf.{Leaf}
use Rattle.txn_grammar.specs.declared.form.Leaf.TheVariants as leaf
use Rattle.txn_grammar.specs.declared.form.Opener.{Opener}
use Rattle.txn_grammar.specs.declared.form.Opener.TheVariants as opener
use Rattle.txn_grammar.specs.declared.symbol.Symbol.{Symbol}
use Rattle.txn_grammar.specs.declared.symbol.Symbol.TheVariants as s
use Rattle.txn_grammar.specs.declared.token.Token.{Token}
use Rattle.txn_grammar.specs.declared.token.Token.TheVariants as t
use Rattle.txn_grammar.specs.declared.token.Spot.{Spot}
use Rattle.txn_grammar.specs.Spellings.{same_symbol}
use Rattle.txn_grammar.specs.Lexer.{spot, Spelled}
use Rattle.txn_grammar.specs.Tokens.{at, symbol_at, of_symbol, number, text, name, truth_of, operator_of, relation_of, kind_of}
use Rattle.txn_grammar.specs.Trees.{expr, number_expr, text_expr, truth_expr, name_expr, grouped, operand, chained, compared, target_of, read_expr}
use Rattle.txn_grammar.specs.Grammar.{NumberLeaf, TextLeaf, TruthLeaf, NameLeaf, LeafRule, Further, Chain, OtherSide}
use Rattle.txn_grammar.specs.Grammar.{Comparison, ComparisonOf, ExpressionOf, Negative, Not, InParens, Group, Len, Str}
use Rattle.txn_grammar.specs.Grammar.{AfterComma, Elements, Texts, Times, Arguments, Targeted, Read, Opened, UnaryOf}
use Rattle.txn_grammar.specs.Grammar.{Unary, Negation, Expression}
use Rattle.txn_grammar.specs.code.Forms.{of_next, leaf_of, leaf_at, opener_at}
use Rattle.txn_grammar.specs.code.Reader.{sees, number_leaf, text_leaf, truth_leaf, name_leaf, leaf_read, a_leaf}
use Rattle.txn_grammar.specs.code.Reader.{begins_operator, further, chain, begins_relation, other_side, comparison}
use Rattle.txn_grammar.specs.code.Reader.{comparison_of, expression_of, negative, not_read, in_parens, group, len, str}
use Rattle.txn_grammar.specs.code.Reader.{after_comma, elements, any_elements, texts, times, arguments_read, targeted}
use Rattle.txn_grammar.specs.code.Reader.{read, opened_read, opened, unary_of, negation_of, unary, negation, expression}
use Rattle.txn_grammar.proofs.Choices.{AnyOf, chosen_fits}
use Rattle.txn_grammar.proofs.TokenFits.{made_at, ahead_of_word, ahead_seen, ahead_of_symbol, word_fits, number_fits}
use Rattle.txn_grammar.proofs.TokenFits.{text_fits, name_fits, truth_fits, operator_fits, relation_fits, kind_fits}
use Rattle.txn_grammar.proofs.TokenFits.{read_fits as read_word_fits}
use Rattle.txn_grammar.proofs.Ends.{product_end, sum_end, comparison_end, conjunction_end, expression_end}
use Rattle.txn_grammar.proofs.Ends.{plus_ends_product, relation_ends_sum, and_ends_comparison, or_ends_conjunction}
use Rattle.txn_grammar.proofs.Ends.{begins_leaf, begins_opened, begins_unary, begins_expression, leaf_opens_nothing}
use Rattle.txn_grammar.proofs.Ends.{unary_no_not, expression_no_close}

-- ---- leaves

-- the rule of each leaf
leaf_branch : Leaf → Rule Spot Expr
leaf_branch leaf.Number = NumberLeaf
leaf_branch leaf.Text = TextLeaf
leaf_branch leaf.Truth = TruthLeaf
leaf_branch leaf.Name = NameLeaf

-- each leaf is one token, which is read as its rule says, and seen as an expression
leaf_branch_fits : (b : Leaf) → Fits Spelled (leaf_read b) (leaf_branch b) any
unfolding leaf_branch number_leaf text_leaf truth_leaf name_leaf
leaf_branch_fits leaf.Number = seen Spelled number_expr number_fits
leaf_branch_fits leaf.Text = seen Spelled text_expr text_fits
leaf_branch_fits leaf.Truth = seen Spelled truth_expr truth_fits
leaf_branch_fits leaf.Name = seen Spelled name_expr name_fits

-- what a token is tells its leaf
number_is : (token : Token) → is_made (number token) ≡ true → leaf_of token ≡ Some leaf.Number
number_is (t.Number value) e = refl
number_is _ e = absurd (cc)

-- only a text's token has a text
text_is : (token : Token) → is_made (text token) ≡ true → leaf_of token ≡ Some leaf.Text
text_is (t.Text bytes) e = refl
text_is _ e = absurd (cc)

-- only the tokens `true` and `false` have a truth value
truth_is : (token : Token) → is_made (of_symbol truth_of token) ≡ true → leaf_of token ≡ Some leaf.Truth
truth_is (t.Symbol s.True) e = refl
truth_is (t.Symbol s.False) e = refl
truth_is _ e = absurd (cc)

-- only a name's token has a name
name_is : (token : Token) → is_made (name token) ≡ true → leaf_of token ≡ Some leaf.Name
name_is (t.Name bytes) e = refl
name_is _ e = absurd (cc)

-- a leaf's one token tells it
one_tells : {A : Type 0} (f : Token → Option A) (b : Leaf) → ((token : Token) → is_made (f token) ≡ true → leaf_of token ≡ Some b)
    → (ts us : List Spot) (a : ℕ × A) → One (at f) ts a us → of_next leaf_at (next ts) ≡ Some b
one_tells f b tells ts us a r = ap (λ xs. of_next leaf_at (next xs)) r.first ∙ tells r.item.token (made_at f ts us a r)

-- each leaf's rule takes one token, and what that token is tells the leaf
leaf_begun : (b : Leaf) (ts us : List Spot) (a : Expr) → leaf_branch b ts a us → of_next leaf_at (next ts) ≡ Some b
unfolding leaf_branch
leaf_begun leaf.Number ts us a r = one_tells number leaf.Number number_is ts r.middle r.value r.first
leaf_begun leaf.Text ts us a r = one_tells text leaf.Text text_is ts r.middle r.value r.first
leaf_begun leaf.Truth ts us a r = one_tells (of_symbol truth_of) leaf.Truth truth_is ts r.middle r.value r.first
leaf_begun leaf.Name ts us a r = one_tells name leaf.Name name_is ts r.middle r.value r.first

-- leaf by leaf: the choice is one of the four alternatives
to_leaf : (ts us : List Spot) (a : Expr) → AnyOf leaf_branch ts a us → LeafRule ts a us
unfolding leaf_branch
to_leaf ts us a (leaf.Number, r) = inl r
to_leaf ts us a (leaf.Text, r) = inr (inl r)
to_leaf ts us a (leaf.Truth, r) = inr (inr (inl r))
to_leaf ts us a (leaf.Name, r) = inr (inr (inr r))

-- and each alternative is one of the choices
from_leaf : (ts us : List Spot) (a : Expr) → LeafRule ts a us → AnyOf leaf_branch ts a us
unfolding leaf_branch
from_leaf ts us a (inl r) = (leaf.Number, r)
from_leaf ts us a (inr (inl r)) = (leaf.Text, r)
from_leaf ts us a (inr (inr (inl r))) = (leaf.Truth, r)
from_leaf ts us a (inr (inr (inr r))) = (leaf.Name, r)

-- the token ahead tells which leaf is derived, so the reader chooses as the rule does
pub leaf_fits : Fits Spelled a_leaf LeafRule any
unfolding a_leaf
leaf_fits = chosen_fits Spelled leaf_at leaf.Name leaf_read leaf_branch any leaf_branch_fits leaf_begun
    LeafRule to_leaf from_leaf

-- what is told begins something
pub told : {B : Type 0} (f : Spot → Option B) (h : Option Spot) (b : B) → of_next f h ≡ Some b → begins f h ≡ true
told f None b e = absurd (cc)
told f (Some item) b e = ap is_made e

-- what is ahead of a leaf tells one
leaf_begins : (ts us : List Spot) (a : Expr) → LeafRule ts a us → begins_leaf (next ts) ≡ true
leaf_begins ts us a r = let x = from_leaf ts us a r in told leaf_at (next ts) x.0 (leaf_begun x.0 ts us a x.1)

-- ---- chains

module _ (rank : Rank) (p : Reader Spot Expr) (P : Rule Spot Expr) (end : Option Spot → Bool) (fp : Fits Spelled p P end)
    (goes : (h : Option Spot) → begins_operator rank h ≡ true → end h ≡ true) where
  -- an operator is one token that anything may follow, and then the operand is read
  further_fits : Fits Spelled (further rank p) (Further rank P) end
  unfolding further
  further_fits = onwards Spelled (operator_fits rank) (λ operator. seen Spelled (operand operator.1) fp)

  -- a list of operands: an operator ahead begins another one, and it may follow the one before
  pub chain_fits : Fits Spelled (chain rank p) (Chain rank P) (unless (begins_operator rank) end)
  unfolding chain
  chain_fits = seen Spelled chained (list_fits Spelled (begins_operator rank) (further rank p) (Further rank P) end further_fits
      (λ ts us a r. one_begins Spelled (at (of_symbol (operator_of rank))) ts r.middle r.value r.first) refl goes p P fp)

module _ (p : Reader Spot Expr) (P : Rule Spot Expr) (fp : Fits Spelled p P sum_end) where
  -- the other side's first token is a comparison's symbol
  other_side_begins : (ts us : List Spot) (a : Relation × Expr) → OtherSide P ts a us → begins_relation (next ts) ≡ true
  other_side_begins ts us a r = one_begins Spelled (at (of_symbol relation_of)) ts r.middle r.value r.first

  -- the symbol is one token that anything may follow, and then the side is read
  other_side_fits : Fits Spelled (other_side p) (OtherSide P) sum_end
  unfolding other_side
  other_side_fits = onwards Spelled relation_fits (λ relation. seen Spelled (λ right. (relation.1, right)) fp)

  -- what a comparison goes on with ends its first side
  ends_side : (us vs : List Spot) (a : Option (Relation × Expr)) → Optional (OtherSide P) us a vs → comparison_end (next vs) ≡ true → sum_end (next us) ≡ true
  ends_side us vs a (inl r) h = ahead_of_symbol relation_of sum_end true relation_ends_sum (next us) (other_side_begins us r.middle r.value r.first)
  ends_side us vs a (inr r) h = ap (λ xs. sum_end (next xs)) r.here ∙ (both (sum_end (next vs)) (not (begins_relation (next vs))) h).0

  -- the first side may be followed by a symbol and the other side, or by what may follow a comparison
  pub comparison_fits : Fits Spelled (comparison p) (Comparison P) comparison_end
  unfolding comparison
  comparison_fits = followed Spelled fp
      (λ left. seen Spelled (compared left) (optional_fits Spelled begins_relation (other_side p) (OtherSide P) sum_end other_side_fits other_side_begins))
      (λ left us vs b r h. ends_side us r.middle r.value r.first (ap (λ xs. comparison_end (next xs)) r.second.here ∙ h))

-- chains of chains, compared: `+` and `-` may follow a product, and a comparison a sum
pub comparison_of_fits : (u : Reader Spot Expr) (U : Rule Spot Expr) → Fits Spelled u U any → Fits Spelled (comparison_of u) (ComparisonOf U) comparison_end
unfolding comparison_of
comparison_of_fits u U fu =
    comparison_fits _ _ (chain_fits rank.Sum _ _ product_end (chain_fits rank.Product u U any fu (λ h e. refl))
    (ahead_of_symbol (operator_of rank.Sum) product_end true plus_ends_product))

-- chains of chains: `and` may follow a comparison, and `or` a conjunction
pub expression_of_fits : (q : Reader Spot Expr) (Q : Rule Spot Expr) → Fits Spelled q Q comparison_end
    → Fits Spelled (expression_of q) (ExpressionOf Q) expression_end
unfolding expression_of
expression_of_fits q Q fq =
    chain_fits rank.Disjunction _ _ conjunction_end (chain_fits rank.Conjunction q Q comparison_end fq
    (ahead_of_symbol (operator_of rank.Conjunction) comparison_end true and_ends_comparison))
    (ahead_of_symbol (operator_of rank.Disjunction) conjunction_end true or_ends_conjunction)

-- ---- what opens a level

-- one after another: a closing parenthesis may follow an expression
pub in_parens_fits : {A : Type 0} (p : Reader Spot A) (P : Rule Spot A) → Fits Spelled p P expression_end → Fits Spelled (in_parens p) (InParens P) any
unfolding in_parens
in_parens_fits p P fp = onwards Spelled (word_fits s.OpenParen) (λ column. followed Spelled fp
    (λ inner. seen Spelled (λ _. (column, inner)) (word_fits s.CloseParen))
    (λ inner us vs b r h. ahead_of_word expression_end true s.CloseParen (λ c. refl) us r.middle r.value r.first))

module _ (u : Reader Spot Expr) (U : Rule Spot Expr) (fu : Fits Spelled u U any) where
  -- the mark, and then a unary, whatever follows
  pub negative_fits : Fits Spelled (negative u) (Negative U) any
  unfolding negative
  negative_fits = onwards Spelled (word_fits s.Minus) (λ column. seen Spelled (λ value. expr column (node.Negative value)) fu)

module _ (e : Reader Spot Expr) (E : Rule Spot Expr) (fe : Fits Spelled e E expression_end)
    (e_begins : (ts us : List Spot) (a : Expr) → E ts a us → begins_expression (next ts) ≡ true) where
  -- as in parentheses, without a node of its own
  group_fits : Fits Spelled (group e) (Group E) any
  unfolding group
  group_fits = seen Spelled (λ inner. grouped inner.0 inner.1) (in_parens_fits e E fe)

  -- the word, and then the argument in parentheses
  len_fits : Fits Spelled (len e) (Len E) any
  unfolding len
  len_fits = onwards Spelled (word_fits s.Len) (λ column. seen Spelled (λ argument. expr column (node.Len argument.1)) (in_parens_fits e E fe))

  -- the word, and then the argument in parentheses
  str_fits : Fits Spelled (str e) (Str E) any
  unfolding str
  str_fits = onwards Spelled (word_fits s.Str) (λ column. seen Spelled (λ argument. expr column (node.Str argument.1)) (in_parens_fits e E fe))

  -- the comma, and then an expression
  after_comma_fits : Fits Spelled (after_comma e) (AfterComma E) expression_end
  unfolding after_comma
  after_comma_fits = onwards Spelled (word_fits s.Comma) (λ _. fe)

  -- its first token is the comma
  comma_begins : (ts us : List Spot) (a : Expr) → AfterComma E ts a us → sees s.Comma (next ts) ≡ true
  comma_begins ts us a r = one_begins Spelled (symbol_at s.Comma) ts r.middle r.value r.first

  -- its first token is a comma, which may follow an expression
  comma_ends : (ts us : List Spot) (a : Expr) → AfterComma E ts a us → expression_end (next ts) ≡ true
  comma_ends ts us a r = ahead_of_word expression_end true s.Comma (λ c. refl) ts r.middle r.value r.first

  -- ---- elements

  -- a list: a comma ahead begins another element, and it may follow the one before
  elements_fits : Fits Spelled (elements e) (Elements E) (unless (sees s.Comma) expression_end)
  unfolding elements
  elements_fits = seen Spelled (λ found. found.0 ∷ found.1)
      (list_fits Spelled (sees s.Comma) (after_comma e) (AfterComma E) expression_end after_comma_fits comma_begins refl
      (ahead_seen expression_end true s.Comma (λ c. refl)) e E fe)

  -- elements begin with an expression, and none begins with a closing bracket
  elements_begin : (ts us : List Spot) (a : List Expr) → Elements E ts a us → not (sees s.CloseBracket (next ts)) ≡ true
  elements_begin ts us a r = ap not (expression_no_close (next ts) (e_begins ts r.first.middle r.first.value r.first.first))

  -- a closing bracket is no comma, and it may follow an expression
  closes_elements : (column : ℕ) → unless (sees s.Comma) expression_end (Some (spot column (t.Symbol s.CloseBracket))) ≡ true
  unfolding same_symbol
  closes_elements column = refl

  -- where the closing bracket is ahead there is no element
  any_elements_fits : Fits Spelled (any_elements e) (Or (Elements E) (Pure [])) (sees s.CloseBracket)
  unfolding any_elements
  any_elements_fits = either_fits Spelled (λ h. not (sees s.CloseBracket h)) (elements e) (pure []) (Elements E) (Pure []) (sees s.CloseBracket)
      (narrowed Spelled (sees s.CloseBracket) (ahead_seen (unless (sees s.Comma) expression_end) true s.CloseBracket closes_elements) elements_fits)
      (narrowed Spelled (sees s.CloseBracket) (λ h k. refl) (pure_fits Spelled []))
      elements_begin
      (λ ts us a r h. ap not (ap (λ xs. sees s.CloseBracket (next xs)) r.here ∙ h))

  -- the brackets, and between them elements, which a closing bracket ends
  texts_fits : Fits Spelled (texts e) (Texts E) any
  unfolding texts
  texts_fits = onwards Spelled (word_fits s.OpenBracket) (λ column. followed Spelled any_elements_fits
      (λ found. seen Spelled (λ _. expr column (node.Texts found)) (word_fits s.CloseBracket))
      (λ found us vs b r h. one_begins Spelled (symbol_at s.CloseBracket) us r.middle r.value r.first))

  -- ---- arguments

  -- what so many go on with, and what ends them, ends an expression
  times_end : (n : ℕ) (us vs : List Spot) (a : List Expr) → Times (AfterComma E) n us a vs → expression_end (next vs) ≡ true → expression_end (next us) ≡ true
  times_end zero us vs a r h = ap (λ xs. expression_end (next xs)) r.here ∙ h
  times_end (suc n) us vs a r h = comma_ends us r.middle r.value r.first

  -- so many, one after another: a comma may follow each
  times_fits : (n : ℕ) → Fits Spelled (times (after_comma e) n) (Times (AfterComma E) n) expression_end
  unfolding turns
  times_fits zero = narrowed Spelled expression_end (λ h k. refl) (pure_fits Spelled [])
  times_fits (suc n) = followed Spelled after_comma_fits (λ first. seen Spelled (λ rest. first ∷ rest) (times_fits n))
      (λ first us vs b r h. times_end n us r.middle r.value r.first (ap (λ xs. expression_end (next xs)) r.second.here ∙ h))

  -- none, or one and so many behind commas: a comma may follow each
  pub arguments_fits : (n : ℕ) → Fits Spelled (arguments_read e n) (Arguments E n) expression_end
  unfolding arguments_read
  arguments_fits zero = narrowed Spelled expression_end (λ h k. refl) (pure_fits Spelled [])
  arguments_fits (suc n) = followed Spelled fe (λ first. seen Spelled (λ rest. first ∷ rest) (times_fits n))
      (λ first us vs b r h. times_end n us r.middle r.value r.first (ap (λ xs. expression_end (next xs)) r.second.here ∙ h))

  -- ---- operations

  -- a kind, a key in parentheses and a dot, one after another, whatever follows each
  pub targeted_fits : Fits Spelled (targeted e) (Targeted E) any
  unfolding targeted
  targeted_fits =
      onwards Spelled kind_fits (λ kind. onwards Spelled (in_parens_fits e E fe)
      (λ key. seen Spelled (λ _. target_of kind key.1) (word_fits s.Dot)))

  -- a target, a word of its kind, and as many arguments as that takes, one after another
  pub read_fits : Fits Spelled (read e) (Read E) any
  unfolding read
  read_fits = onwards Spelled targeted_fits (λ target. onwards Spelled (read_word_fits target.kind) (λ operation.
      seen Spelled (λ arguments. read_expr target operation.1.word arguments.1) (in_parens_fits _ _ (arguments_fits operation.1.arguments))))

-- ---- what is opened

-- the rule of each form that opens a level
opened_branch : Rule Spot Expr → Rule Spot Expr → Opener → Rule Spot Expr
opened_branch U E opener.Negative = Negative U
opened_branch U E opener.Group = Group E
opened_branch U E opener.Len = Len E
opened_branch U E opener.Str = Str E
opened_branch U E opener.Texts = Texts E
opened_branch U E opener.Read = Read E

-- the word of each kind opens a read
kind_opens : (column : ℕ) (symbol : Symbol) → is_made (kind_of symbol) ≡ true → of_next opener_at (Some (spot column (t.Symbol symbol))) ≡ Some opener.Read
kind_opens column s.Bool e = refl
kind_opens column s.Counter e = refl
kind_opens column s.Text e = refl
kind_opens column s.Set e = refl
kind_opens column s.Hash e = refl
kind_opens column s.List e = refl
kind_opens column s.Peak e = refl
kind_opens column _ e = absurd (cc)

module _ (U E : Rule Spot Expr) where
  -- each form's first token tells it: a mark, a bracket, a word, or the word of a kind
  opened_begun : (b : Opener) (ts us : List Spot) (a : Expr) → opened_branch U E b ts a us → of_next opener_at (next ts) ≡ Some b
  unfolding opened_branch
  opened_begun opener.Negative ts us a r = ahead_of_word (of_next opener_at) (Some opener.Negative) s.Minus (λ c. refl) ts r.middle r.value r.first
  opened_begun opener.Group ts us a r =
      ahead_of_word (of_next opener_at) (Some opener.Group) s.OpenParen (λ c. refl) ts r.first.middle r.first.value r.first.first
  opened_begun opener.Len ts us a r = ahead_of_word (of_next opener_at) (Some opener.Len) s.Len (λ c. refl) ts r.middle r.value r.first
  opened_begun opener.Str ts us a r = ahead_of_word (of_next opener_at) (Some opener.Str) s.Str (λ c. refl) ts r.middle r.value r.first
  opened_begun opener.Texts ts us a r = ahead_of_word (of_next opener_at) (Some opener.Texts) s.OpenBracket (λ c. refl) ts r.middle r.value r.first
  opened_begun opener.Read ts us a r =
      let k = r.first.first in
      ahead_of_symbol kind_of (of_next opener_at) (Some opener.Read) kind_opens (next ts)
      (one_begins Spelled (at (of_symbol kind_of)) ts r.first.middle r.first.value k)

  -- form by form: the choice is one of the six alternatives
  to_opened : (ts us : List Spot) (a : Expr) → AnyOf (opened_branch U E) ts a us → Opened U E ts a us
  unfolding opened_branch
  to_opened ts us a (opener.Negative, r) = inl r
  to_opened ts us a (opener.Group, r) = inr (inl r)
  to_opened ts us a (opener.Len, r) = inr (inr (inl r))
  to_opened ts us a (opener.Str, r) = inr (inr (inr (inl r)))
  to_opened ts us a (opener.Texts, r) = inr (inr (inr (inr (inl r))))
  to_opened ts us a (opener.Read, r) = inr (inr (inr (inr (inr r))))

  -- and each alternative is one of the choices
  from_opened : (ts us : List Spot) (a : Expr) → Opened U E ts a us → AnyOf (opened_branch U E) ts a us
  unfolding opened_branch
  from_opened ts us a (inl r) = (opener.Negative, r)
  from_opened ts us a (inr (inl r)) = (opener.Group, r)
  from_opened ts us a (inr (inr (inl r))) = (opener.Len, r)
  from_opened ts us a (inr (inr (inr (inl r)))) = (opener.Str, r)
  from_opened ts us a (inr (inr (inr (inr (inl r))))) = (opener.Texts, r)
  from_opened ts us a (inr (inr (inr (inr (inr r))))) = (opener.Read, r)

  -- what is ahead of what opens a level tells one of the forms
  opened_begins : (ts us : List Spot) (a : Expr) → Opened U E ts a us → begins_opened (next ts) ≡ true
  opened_begins ts us a r = let x = from_opened ts us a r in told opener_at (next ts) x.0 (opened_begun x.0 ts us a x.1)

  -- a unary begins with a leaf, or with what opens a level
  unary_of_begins : (ts us : List Spot) (a : Expr) → UnaryOf U E ts a us → begins_unary (next ts) ≡ true
  unary_of_begins ts us a (inl r) = ap (λ b. b || begins_leaf (next ts)) (opened_begins ts us a r)
  unary_of_begins ts us a (inr r) =
      let k = leaf_begins ts us a r in
      ap (λ b. b || begins_leaf (next ts)) (leaf_opens_nothing (next ts) k) ∙ k

module _ (u : Reader Spot Expr) (U : Rule Spot Expr) (fu : Fits Spelled u U any) (e : Reader Spot Expr) (E : Rule Spot Expr)
    (fe : Fits Spelled e E expression_end)
    (e_begins : (ts us : List Spot) (a : Expr) → E ts a us → begins_expression (next ts) ≡ true) where
  -- each form is read as its rule says, since what stands inside is
  opened_branch_fits : (b : Opener) → Fits Spelled (opened_read u e b) (opened_branch U E b) any
  unfolding opened_branch
  opened_branch_fits opener.Negative = negative_fits u U fu
  opened_branch_fits opener.Group = group_fits e E fe e_begins
  opened_branch_fits opener.Len = len_fits e E fe e_begins
  opened_branch_fits opener.Str = str_fits e E fe e_begins
  opened_branch_fits opener.Texts = texts_fits e E fe e_begins
  opened_branch_fits opener.Read = read_fits e E fe e_begins

  -- the token ahead tells which form is derived, so the reader chooses as the rule does
  opened_fits : Fits Spelled (opened u e) (Opened U E) any
  unfolding opened
  opened_fits = chosen_fits Spelled opener_at opener.Read (opened_read u e) (opened_branch U E) any opened_branch_fits (opened_begun U E)
      (Opened U E) (to_opened U E) (from_opened U E)

  -- something opens a level exactly where the test says so, since no leaf begins so
  unary_of_fits : Fits Spelled (unary_of u e) (UnaryOf U E) any
  unfolding unary_of
  unary_of_fits = either_fits Spelled begins_opened (opened u e) a_leaf (Opened U E) LeafRule any opened_fits leaf_fits
      (opened_begins U E) (λ ts us a r h. leaf_opens_nothing (next ts) (leaf_begins ts us a r))

-- ---- levels

-- what an operand begins with is what a comparison begins with
comparison_begins : (U : Rule Spot Expr) → ((ts us : List Spot) (a : Expr) → U ts a us → begins_unary (next ts) ≡ true)
    → (ts us : List Spot) (a : Expr) → ComparisonOf U ts a us → begins_unary (next ts) ≡ true
comparison_begins U begins ts us a r = let x = r.first.first.first.first.first in begins ts _ _ x

module _ (q : Reader Spot Expr) (Q : Rule Spot Expr) (fq : Fits Spelled q Q comparison_end) (u : Reader Spot Expr)
    (U : Rule Spot Expr) (fu : Fits Spelled u U any)
    (u_begins : (ts us : List Spot) (a : Expr) → U ts a us → begins_unary (next ts) ≡ true) where
  -- the word, and then a negation
  not_fits : Fits Spelled (not_read q) (Not Q) comparison_end
  unfolding not_read
  not_fits = onwards Spelled (word_fits s.Not) (λ column. seen Spelled (λ value. expr column (node.Not value)) fq)

  -- there is a `not` exactly where one is ahead, since no comparison begins with it
  negation_of_fits : Fits Spelled (negation_of q u) (Or (Not Q) (ComparisonOf U)) comparison_end
  unfolding negation_of
  negation_of_fits =
      either_fits Spelled (sees s.Not) (not_read q) (comparison_of u) (Not Q) (ComparisonOf U) comparison_end not_fits
      (comparison_of_fits u U fu)
      (λ ts us a r. one_begins Spelled (symbol_at s.Not) ts r.middle r.value r.first)
      (λ ts us a r h. unary_no_not (next ts) (comparison_begins U u_begins ts us a r))

-- what expressions begin with, whatever levels are left
unary_begins : (n : ℕ) (ts us : List Spot) (a : Expr) → Unary n ts a us → begins_unary (next ts) ≡ true
unfolding Unary
unary_begins zero ts us a r = let k = leaf_begins ts us a r in ap (λ b. b || begins_leaf (next ts)) (leaf_opens_nothing (next ts) k) ∙ k
unary_begins (suc n) ts us a r = unary_of_begins (Unary n) (ExpressionOf (Negation n)) ts us a r

-- an operand begins with no `not`, and an expression may begin as an operand does
by_unary : (h : Option Spot) → begins_unary h ≡ true → begins_expression h ≡ true
by_unary h e = ap (λ b. b || begins_unary h) (unary_no_not h e) ∙ e

-- it begins with `not`, or as its first operand does
negation_begins : (n : ℕ) (ts us : List Spot) (a : Expr) → Negation n ts a us → begins_expression (next ts) ≡ true
unfolding Unary
negation_begins zero ts us a r = by_unary (next ts) (comparison_begins LeafRule (unary_begins zero) ts us a r)
negation_begins (suc n) ts us a (inl r) = ap (λ b. b || begins_unary (next ts)) (one_begins Spelled (symbol_at s.Not) ts r.middle r.value r.first)
negation_begins (suc n) ts us a (inr r) =
    by_unary (next ts) (comparison_begins (UnaryOf (Unary n) (ExpressionOf (Negation n))) (unary_begins (suc n)) ts us a r)

-- an expression begins as its first negation does
pub expression_begins : (n : ℕ) (ts us : List Spot) (a : Expr) → Expression n ts a us → begins_expression (next ts) ≡ true
expression_begins n ts us a r = let x = r.first.first.first.first in negation_begins n ts _ _ x

-- at each level both fit
record LevelFits (n : ℕ) : Type 0 where
  of_unary : Fits Spelled (unary n) (Unary n) any
  of_negation : Fits Spelled (negation n) (Negation n) comparison_end

-- level by level: with a level more, what stands inside fits already
level_fits : (n : ℕ) → LevelFits n
unfolding Unary unary
level_fits zero = record { of_unary = leaf_fits; of_negation = comparison_of_fits a_leaf LeafRule leaf_fits }
level_fits (suc n) =
    let x = level_fits n in
    let e = expression_of_fits (negation n) (Negation n) x.of_negation in
    let u = unary_of_fits (unary n) (Unary n) x.of_unary (expression_of (negation n)) (ExpressionOf (Negation n)) e (expression_begins n) in
    record {
      of_unary = u;
      of_negation = negation_of_fits (negation n) (Negation n) x.of_negation _ _ u (unary_begins (suc n));
    }

-- an expression is built up from the negations of its level
pub expression_fits : (n : ℕ) → Fits Spelled (expression n) (Expression n) expression_end
unfolding expression
expression_fits n = expression_of_fits (negation n) (Negation n) (level_fits n).of_negation
