-- What holds of each token that a rule is given holds of each that it leaves.
use Rattle.std.proofs.Common.{ℕ, zero, suc, List, [], Option, Some, None, subst, inl, inr}
use Rattle.predictive_parsing.specs.Rules.{Rule, One, Then, Pure, Or, Many, none, more, Optional}
use Rattle.txn_trees.specs.declared.expression.Expr.{Expr}
use Rattle.txn_trees.specs.declared.statement.Stmt.{Stmt}
use Rattle.txn_grammar.specs.declared.rank.Rank.{Rank}
use Rattle.txn_grammar.specs.declared.rank.Rank.TheVariants as rank
use Rattle.txn_grammar.specs.declared.symbol.Symbol.{Symbol}
use Rattle.txn_grammar.specs.declared.token.Spot.{Spot}
use Rattle.txn_grammar.specs.Grammar.{Word, LeafRule, Further, Chain, Comparison, ComparisonOf, ExpressionOf, InParens}
use Rattle.txn_grammar.specs.Grammar.{AfterComma, Elements, Texts, Times, Arguments, Targeted, Read, Opened, Unary}
use Rattle.txn_grammar.specs.Grammar.{Negation, Expression, SimpleStmt, Block, NestingStmt, Statement}
use Rattle.txn_print.proofs.Back.{Each}

module _ (G : Spot → Type 0) where
  -- what holds of each token that the rule is given holds of each that it leaves
  abbrev pub Keeps : {A : Type 0} → Rule Spot A → Type 0
  Keeps {A} R = (ts us : List Spot) (a : A) → R ts a us → Each G ts → Each G us

  -- ---- ways to put rules together

  -- one spot is taken, and the others are left
  pub keep_one : {A : Type 0} (f : Spot → Option A) → Keeps (One f)
  keep_one f ts us a r h = (subst (λ xs. Each G xs) r.first h).1

  -- nothing is taken
  pub keep_pure : {A : Type 0} (a : A) → Keeps (Pure a)
  keep_pure a ts us b r h = subst (λ xs. Each G xs) r.here h

  -- the second is given what the first leaves
  pub keep_then : {A B : Type 0} (P : Rule Spot A) (Q : A → Rule Spot B) → Keeps P → ((a : A) → Keeps (Q a)) → Keeps (Then P Q)
  keep_then P Q f g ts us b r h = g r.value r.middle us b r.second (f ts r.middle r.value r.first h)

  -- each of the two keeps it, whichever derived
  pub keep_or : {A : Type 0} (P Q : Rule Spot A) → Keeps P → Keeps Q → Keeps (Or P Q)
  keep_or P Q f g ts us a (inl r) h = f ts us a r h
  keep_or P Q f g ts us a (inr r) h = g ts us a r h

  -- each is given what the one before it leaves
  pub keep_many : {A : Type 0} (P : Rule Spot A) → Keeps P → Keeps (Many P)
  keep_many P f ts us all (none ts') h = h
  keep_many P f ts us all (more ts' us' vs' a rest r rs) h = keep_many P f us' us rest rs (f ts us' a r h)

  -- one thing, seen as another value
  mapped : {A B : Type 0} (P : Rule Spot A) (g : A → B) → Keeps P → Keeps (Then P (λ a. Pure (g a)))
  mapped P g f = keep_then P (λ a. Pure (g a)) f (λ a. keep_pure (g a))

  -- a word and then
  worded : {B : Type 0} (s : Symbol) (Q : ℕ → Rule Spot B) → ((c : ℕ) → Keeps (Q c)) → Keeps (Then (Word s) Q)
  worded s Q g = keep_then (Word s) Q (keep_one _) g

  -- it may be taken or not, and either keeps it
  keep_optional : {A : Type 0} (P : Rule Spot A) → Keeps P → Keeps (Optional P)
  keep_optional P f = keep_or _ _ (mapped P (λ a. Some a) f) (keep_pure None)

  -- ---- expressions

  -- each leaf is one token
  keep_leaf : Keeps LeafRule
  keep_leaf =
      keep_or _ _ (mapped _ _ (keep_one _)) (keep_or _ _ (mapped _ _ (keep_one _)) (keep_or _ _ (mapped _ _ (keep_one _)) (mapped _ _ (keep_one _))))

  -- one token, the operator, and then an operand
  pub keep_further : (r : Rank) (P : Rule Spot Expr) → Keeps P → Keeps (Further r P)
  keep_further r P f = keep_then _ _ (keep_one _) (λ o. mapped _ _ f)

  -- an operand and then any number of further ones
  pub keep_chain : (r : Rank) (P : Rule Spot Expr) → Keeps P → Keeps (Chain r P)
  keep_chain r P f = mapped _ _ (keep_then _ _ f (λ a. mapped _ _ (keep_many _ (keep_further r P f))))

  -- a side and then, or not, one token and the other side
  keep_comparison : (P : Rule Spot Expr) → Keeps P → Keeps (Comparison P)
  keep_comparison P f = keep_then _ _ f (λ a. mapped _ _ (keep_optional _ (keep_then _ _ (keep_one _) (λ o. mapped _ _ f))))

  -- chains of chains of unary ones, compared
  keep_comparison_of : (U : Rule Spot Expr) → Keeps U → Keeps (ComparisonOf U)
  keep_comparison_of U f = keep_comparison _ (keep_chain rank.Sum _ (keep_chain rank.Product U f))

  -- chains of chains of negations
  pub keep_expression_of : (N : Rule Spot Expr) → Keeps N → Keeps (ExpressionOf N)
  keep_expression_of N f = keep_chain rank.Disjunction _ (keep_chain rank.Conjunction N f)

  -- one token on each side of what keeps it
  pub keep_parens : {A : Type 0} (P : Rule Spot A) → Keeps P → Keeps (InParens P)
  keep_parens P f = worded _ _ (λ c. keep_then _ _ f (λ a. worded _ _ (λ d. keep_pure _)))

  -- one token and then what keeps it
  pub keep_after_comma : (E : Rule Spot Expr) → Keeps E → Keeps (AfterComma E)
  keep_after_comma E f = worded _ _ (λ c. f)

  -- so many, one after another, each of which keeps it
  keep_times : {A : Type 0} (P : Rule Spot A) → Keeps P → (n : ℕ) → Keeps (Times P n)
  keep_times P f zero ts us a r h = keep_pure [] ts us a r h
  keep_times P f (suc n) ts us a r h = keep_then _ _ f (λ b. mapped _ _ (keep_times P f n)) ts us a r h

  -- none, or one and so many more behind commas
  pub keep_arguments : (E : Rule Spot Expr) → Keeps E → (n : ℕ) → Keeps (Arguments E n)
  keep_arguments E f zero ts us a r h = keep_pure [] ts us a r h
  keep_arguments E f (suc n) ts us a r h = keep_then _ _ f (λ b. mapped _ _ (keep_times _ (keep_after_comma E f) n)) ts us a r h

  -- one and any number more behind commas
  keep_elements : (E : Rule Spot Expr) → Keeps E → Keeps (Elements E)
  keep_elements E f = mapped _ _ (keep_then _ _ f (λ a. mapped _ _ (keep_many _ (keep_after_comma E f))))

  -- a kind's token, a key in parentheses, and a dot
  pub keep_targeted : (E : Rule Spot Expr) → Keeps E → Keeps (Targeted E)
  keep_targeted E f = keep_then _ _ (keep_one _) (λ k. keep_then _ _ (keep_parens E f) (λ key. worded _ _ (λ d. keep_pure _)))

  -- a target, one token for the word, and arguments in parentheses
  keep_read : (E : Rule Spot Expr) → Keeps E → Keeps (Read E)
  keep_read E f =
      keep_then _ _ (keep_targeted E f) (λ t. keep_then _ _ (keep_one _) (λ o. mapped _ _ (keep_parens _ (keep_arguments E f o.1.arguments))))

  -- a token on each side of elements, or of nothing
  keep_texts : (E : Rule Spot Expr) → Keeps E → Keeps (Texts E)
  keep_texts E f = worded _ _ (λ c. keep_then _ _ (keep_or _ _ (keep_elements E f) (keep_pure [])) (λ es. worded _ _ (λ d. keep_pure _)))

  -- each form has single tokens and what stands inside, which keeps it
  keep_opened : (U E : Rule Spot Expr) → Keeps U → Keeps E → Keeps (Opened U E)
  keep_opened U E f g =
      keep_or _ _ (worded _ _ (λ c. mapped _ _ f))
      (keep_or _ _ (mapped _ _ (keep_parens E g))
      (keep_or _ _ (worded _ _ (λ c. mapped _ _ (keep_parens E g)))
      (keep_or _ _ (worded _ _ (λ c. mapped _ _ (keep_parens E g)))
      (keep_or _ _ (keep_texts E g) (keep_read E g)))))

  record KeepsLevel (n : ℕ) : Type 0 where
    unary : Keeps (Unary n)
    negation : Keeps (Negation n)

  -- level by level: what stands inside has a level less
  keep_levels : (n : ℕ) → KeepsLevel n
  unfolding Unary
  keep_levels zero = record { unary = keep_leaf; negation = keep_comparison_of _ keep_leaf }
  keep_levels (suc n) =
      let k = keep_levels n in
      let u : Keeps (Unary (suc n)) = keep_or _ _ (keep_opened _ _ k.unary (keep_expression_of _ k.negation)) keep_leaf in
      record { unary = u; negation = keep_or _ _ (worded _ _ (λ c. mapped _ _ k.negation)) (keep_comparison_of _ u) }

  -- one half of the levels: unary
  pub keep_unary : (n : ℕ) → Keeps (Unary n)
  keep_unary n = (keep_levels n).unary

  -- the other half: negations
  pub keep_negation : (n : ℕ) → Keeps (Negation n)
  keep_negation n = (keep_levels n).negation

  -- an expression is built up from negations
  pub keep_expression : (n : ℕ) → Keeps (Expression n)
  keep_expression n = keep_expression_of _ (keep_negation n)

  -- ---- statements

  -- single tokens and one expression, in each of the three forms
  keep_simple : (E : Rule Spot Expr) → Keeps E → Keeps (SimpleStmt E)
  keep_simple E f =
      keep_or _ _ (worded _ _ (λ c. keep_then _ _ (keep_one _) (λ x. worded _ _ (λ a. keep_then _ _ f (λ e. worded _ _ (λ s. keep_pure _))))))
      (keep_or _ _ (worded _ _ (λ c. keep_then _ _ f (λ e. worded _ _ (λ s. keep_pure _))))
      (worded _ _ (λ c. keep_then _ _ f (λ e. worded _ _ (λ s. keep_pure _)))))

  -- a token on each side of any number of statements
  pub keep_block : (S : Rule Spot Stmt) → Keeps S → Keeps (Block S)
  keep_block S f = worded _ _ (λ c. keep_then _ _ (keep_many _ f) (λ ss. worded _ _ (λ d. keep_pure _)))

  -- single tokens, expressions and blocks, in each of the three forms
  keep_nesting : (E A : Rule Spot Expr) (S : Rule Spot Stmt) → Keeps E → Keeps A → Keeps S → Keeps (NestingStmt E A S)
  keep_nesting E A S f g h =
      keep_or _ _ (worded _ _
      (λ c. keep_then _ _ f (λ e. keep_then _ _ (keep_block S h) (λ b. mapped _ _ (keep_optional _ (worded _ _ (λ d. keep_block S h)))))))
      (keep_or _ _ (worded _ _ (λ c. keep_then _ _ (keep_one _) (λ x. worded _ _ (λ i. keep_then _ _ f (λ e. mapped _ _ (keep_block S h))))))
      (keep_then _ _ (keep_targeted A g)
      (λ t. keep_then _ _ (keep_one _) (λ o. keep_then _ _ (keep_parens _ (keep_arguments A g o.1.arguments)) (λ as_. worded _ _ (λ s. keep_pure _))))))

  -- level by level: what stands in a statement's blocks has a level less
  pub keep_statement : (n : ℕ) → Keeps (Statement n)
  unfolding Statement
  keep_statement zero = keep_simple _ (keep_expression zero)
  keep_statement (suc n) =
      keep_or _ _ (keep_simple _ (keep_expression (suc n))) (keep_nesting _ _ _ (keep_expression (suc n)) (keep_expression n) (keep_statement n))
