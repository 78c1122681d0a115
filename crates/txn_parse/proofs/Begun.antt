-- Rules whose first operand is read already go on as the whole rules do.
use Rattle.std.proofs.Common.{◌≡◌, ℕ, suc, zero, Bool, true, false, ◌||◌, List, [], length, Option, Some, None, Ok, Err, refl, ap, ◌∙◌}
use Rattle.txn_trees.specs.declared.expression.Expr.{Expr}
use Rattle.predictive_parsing.specs.Reading.{Outcome, Reader, next, and_then, pure, either, many, list, optional}
use Rattle.predictive_parsing.proofs.Loops.{no_front, turns_over}
use Rattle.txn_grammar.specs.declared.rank.Rank.{Rank}
use Rattle.txn_grammar.specs.declared.rank.Rank.TheVariants as rank
use Rattle.txn_grammar.specs.declared.symbol.Symbol.TheVariants as symbol
use Rattle.txn_grammar.specs.declared.token.Spot.{Spot}
use Rattle.txn_grammar.specs.Trees.{chained, compared}
use Rattle.txn_grammar.specs.code.Reader.{begins_operator, begins_relation, further, other_side, chain, comparison, comparison_of, sees}
use Rattle.txn_grammar.specs.code.Reader.{unary, unary_of, negation, negation_of, not_read, expression, expression_of}
use Rattle.txn_parse.specs.code.Begun as begun

-- two steps, and then one, are one step, and then two
bind_twice : {I A B C : Type 0} (o : Outcome I A) (q : A → Reader I B) (r : B → Reader I C)
    → and_then (and_then o q) r ≡ and_then o (λ a us. and_then (q a us) r)
bind_twice (Ok read) q r = refl
bind_twice (Err ts) q r = refl

-- what isn't ahead is not read
either_other : {I A : Type 0} (starts : Option I → Bool) (p q : Reader I A) (ts : List I) → starts (next ts) ≡ false → either starts p q ts ≡ q ts
either_other starts p q ts none = rw none refl

-- and what is ahead is read
either_first : {I A : Type 0} (starts : Option I → Bool) (p q : Reader I A) (ts : List I) → starts (next ts) ≡ true → either starts p q ts ≡ p ts
either_first starts p q ts some = rw some refl

module _ (rank : Rank) (p : Reader Spot Expr) where
  -- the pair of the first operand and the others is made a tree in the same step
  in_pairs : (first : Expr) (us : List Spot)
      → and_then (and_then (many (begins_operator rank) (further rank p) us) (λ others. pure (first, others))) (λ operands. pure (chained operands))
      ≡ begun.chain rank p first us
  unfolding begun.chain
  in_pairs first us = bind_twice (many (begins_operator rank) (further rank p) us) (λ others. pure (first, others)) (λ operands. pure (chained operands))

  -- a chain is its first operand, and what is read behind it
  pub chain_begins : (ts : List Spot) → chain rank p ts ≡ and_then (p ts) (begun.chain rank p)
  unfolding chain list
  chain_begins ts = by (p ts)
    where
      by : (o : Outcome Spot Expr)
          → and_then (and_then o (λ first us. and_then (many (begins_operator rank) (further rank p) us) (λ others. pure (first, others))))
          (λ operands. pure (chained operands))
          ≡ and_then o (begun.chain rank p)
      by (Ok (first, us)) = in_pairs first us
      by (Err us) = refl

  -- and nothing more, where no operator of its rank is ahead
  pub chain_alone : (first : Expr) (us : List Spot) → begins_operator rank (next us) ≡ false → begun.chain rank p first us ≡ Ok (first, us)
  unfolding begun.chain many
  chain_alone first us none =
      let starts = begins_operator rank in
      let item = further rank p in
      let k = turns_over starts item [] (length us) us (many starts item us) (no_front (many starts item us)) none in
      ap (λ o. and_then o (λ others. pure (chained (first, others)))) k

module _ (side : Reader Spot Expr) (left : Expr) (us : List Spot) where
  -- a comparison is nothing more than its left side, where no relation is ahead
  pub comparison_alone : begins_relation (next us) ≡ false → begun.comparison side left us ≡ Ok (left, us)
  unfolding begun.comparison optional
  comparison_alone none =
      ap (λ o. and_then o (λ more. pure (compared left more)))
      (either_other begins_relation (λ ts. and_then (other_side side ts) (λ found. pure (Some found))) (pure None) us none)

  -- and else both sides
  pub comparison_goes : begins_relation (next us) ≡ true
      → begun.comparison side left us ≡ and_then (other_side side us) (λ found. pure (compared left (Some found)))
  unfolding begun.comparison optional
  comparison_goes some =
      ap (λ o. and_then o (λ more. pure (compared left more)))
      (either_first begins_relation (λ ts. and_then (other_side side ts) (λ found. pure (Some found))) (pure None) us some)
      ∙ bind_twice (other_side side us) (λ found. pure (Some found)) (λ more. pure (compared left more))

module _ (u : Reader Spot Expr) (ts : List Spot) where
  -- a product, which is an operand of a sum
  abbrev product_read : Reader Spot Expr
  product_read = chain rank.Product u

  -- of a sum the first operand is that of its first product
  pub sum_begins : chain rank.Sum product_read ts ≡ and_then (u ts) (begun.sum u)
  unfolding begun.sum
  sum_begins =
      chain_begins rank.Sum product_read ts
      ∙ ap (λ o. and_then o (begun.chain rank.Sum product_read)) (chain_begins rank.Product u ts)
      ∙ bind_twice (u ts) (begun.chain rank.Product u) (begun.chain rank.Sum product_read)

  -- a sum, which is a side of a comparison
  abbrev sum_read : Reader Spot Expr
  sum_read = chain rank.Sum product_read

  -- and of a comparison that of its left side
  pub comparison_begins : comparison_of u ts ≡ and_then (u ts) (begun.comparison_of u)
  unfolding comparison_of comparison begun.comparison begun.comparison_of
  comparison_begins = ap (λ o. and_then o (begun.comparison sum_read)) sum_begins ∙ bind_twice (u ts) (begun.sum u) (begun.comparison sum_read)

-- where no `not` is ahead a negation is a comparison
no_not : (n : ℕ) (ts : List Spot) → sees symbol.Not (next ts) ≡ false → negation n ts ≡ comparison_of (unary n) ts
unfolding negation unary negation_of expression
no_not zero ts none = refl
no_not (suc n) ts none = either_other (sees symbol.Not) (not_read (negation n)) (comparison_of (unary_of (unary n) (expression n))) ts none

-- of two tests that don't hold together neither does
neither : (a b : Bool) → a || b ≡ false → (a ≡ false) × (b ≡ false)
neither true b e = absurd (cc)
neither false b e = (refl, e)

module _ (n : ℕ) where
  -- a conjunction, which is an operand of a disjunction
  abbrev conjunction_read : Reader Spot Expr
  conjunction_read = chain rank.Conjunction (negation n)

  -- the rest of one, behind its first operand
  abbrev conjunction_on : Expr → Reader Spot Expr
  conjunction_on = begun.chain rank.Conjunction (negation n)

  -- the rest of a disjunction, behind its first operand
  abbrev disjunction_on : Expr → Reader Spot Expr
  disjunction_on = begun.chain rank.Disjunction conjunction_read

  -- an expression begins with a conjunction
  pub disjunction_begins : (ts : List Spot) → expression n ts ≡ and_then (conjunction_read ts) disjunction_on
  unfolding expression expression_of
  disjunction_begins ts = chain_begins rank.Disjunction conjunction_read ts

  -- what joins comparisons
  abbrev joined : Expr → Reader Spot Expr
  joined first us = and_then (conjunction_on first us) disjunction_on

  -- without `not` an expression is its first operand, and what is read behind it
  pub expression_begins : (ts : List Spot) → sees symbol.Not (next ts) ≡ false
      → expression n ts ≡ and_then (unary n ts) (begun.expression_of (negation n) (unary n))
  unfolding begun.expression_of
  expression_begins ts none =
      disjunction_begins ts
      ∙ ap (λ o. and_then o disjunction_on) (chain_begins rank.Conjunction (negation n) ts)
      ∙ bind_twice (negation n ts) conjunction_on disjunction_on
      ∙ ap (λ o. and_then o joined) (no_not n ts none ∙ comparison_begins (unary n) ts)
      ∙ bind_twice (unary n ts) (begun.comparison_of (unary n)) joined

  -- The operand is the whole expression, where nothing ahead joins it to another.
  pub expression_alone : (first : Expr) (us : List Spot) → begun.joins (next us) ≡ false → begun.expression_of (negation n) (unary n) first us ≡ Ok (first, us)
  unfolding begun.joins begun.sum begun.comparison_of begun.expression_of
  expression_alone first us none =
      let u = unary n in
      let product_less = neither (begins_operator rank.Product (next us)) _ none in
      let sum_less = neither (begins_operator rank.Sum (next us)) _ product_less.1 in
      let relation_less = neither (begins_relation (next us)) _ sum_less.1 in
      let conjunction_less = neither (begins_operator rank.Conjunction (next us)) _ relation_less.1 in
      ap (λ o. and_then (and_then (and_then o (begun.chain rank.Sum (product_read u us))) (begun.comparison (sum_read u us))) joined)
      (chain_alone rank.Product u first us product_less.0)
      ∙ ap (λ o. and_then (and_then o (begun.comparison (sum_read u us))) joined) (chain_alone rank.Sum (product_read u us) first us sum_less.0)
      ∙ ap (λ o. and_then o joined) (comparison_alone (sum_read u us) first us relation_less.0)
      ∙ ap (λ o. and_then o disjunction_on) (chain_alone rank.Conjunction (negation n) first us conjunction_less.0)
      ∙ chain_alone rank.Disjunction conjunction_read first us conjunction_less.1
