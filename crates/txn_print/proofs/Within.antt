-- What a rule derives, a looser rule derives too, and so does the same rule with one level more.
use Rattle.std.proofs.Common.{◌≡◌, ℕ, zero, suc, ◌+◌, ◌-◌, ◌≤◌, List, [], Some, None, refl, ap, sym, ◌∙◌, subst, inl, inr, arith}
use Rattle.predictive_parsing.specs.Rules.{Rule, Then, Pure, Or, Many, none, more, Optional}
use Rattle.txn_trees.specs.declared.expression.Expr.{Expr}
use Rattle.txn_grammar.specs.declared.rank.Rank.{Rank}
use Rattle.txn_grammar.specs.declared.rank.Rank.TheVariants as rank
use Rattle.txn_grammar.specs.declared.token.Spot.{Spot}
use Rattle.txn_grammar.specs.Grammar.{LeafRule, Chain, Comparison, ComparisonOf, ExpressionOf, InParens, AfterComma}
use Rattle.txn_grammar.specs.Grammar.{Elements, Texts, Times, Arguments, Targeted, Read, Opened, Unary, Negation}
use Rattle.txn_grammar.specs.Grammar.{Expression}
use Rattle.txn_print.specs.declared.place.Place.{Place}
use Rattle.txn_print.specs.declared.place.Place.TheVariants as place
use Rattle.txn_print.specs.Places.{tightness}

-- what P derives Q derives too
abbrev pub Within : {A : Type 0} → Rule Spot A → Rule Spot A → Type 0
Within {A} P Q = (ts us : List Spot) (a : A) → P ts a us → Q ts a us

-- ---- ways to put rules together

-- each rule derives what it derives
pub same : {A : Type 0} (P : Rule Spot A) → Within P P
same P ts us a r = r

-- each of two parts derives as much as its own
pub then_within : {A B : Type 0} (P P' : Rule Spot A) (Q Q' : A → Rule Spot B) → Within P P' → ((a : A) → Within (Q a) (Q' a))
    → Within (Then P Q) (Then P' Q')
then_within P P' Q Q' f g ts us b r =
    record { value = r.value; middle = r.middle; first = f ts r.middle r.value r.first; second = g r.value r.middle us b r.second }

-- the second part alone differs
behind : {A B : Type 0} (P : Rule Spot A) (Q Q' : A → Rule Spot B) → ((a : A) → Within (Q a) (Q' a)) → Within (Then P Q) (Then P Q')
behind P Q Q' g = then_within P P Q Q' (same P) g

-- the first part alone differs
before : {A B : Type 0} (P P' : Rule Spot A) (Q : A → Rule Spot B) → Within P P' → Within (Then P Q) (Then P' Q)
before P P' Q f = then_within P P' Q Q f (λ a. same (Q a))

-- whichever derived, its own counterpart does
pub or_within : {A : Type 0} (P P' Q Q' : Rule Spot A) → Within P P' → Within Q Q' → Within (Or P Q) (Or P' Q')
or_within P P' Q Q' f g ts us a (inl r) = inl (f ts us a r)
or_within P P' Q Q' f g ts us a (inr r) = inr (g ts us a r)

-- one after another, each by its own
pub many_within : {A : Type 0} (P P' : Rule Spot A) → Within P P' → Within (Many P) (Many P')
many_within P P' f ts us all (none ts') = none ts
many_within P P' f ts us all (more ts' us' vs' a rest r rs) = more ts us' us a rest (f ts us' a r) (many_within P P' f us' us rest rs)

-- it is derived by its counterpart, or is left out as before
pub optional_within : {A : Type 0} (P P' : Rule Spot A) → Within P P' → Within (Optional P) (Optional P')
optional_within P P' f = or_within _ _ _ _ (before P P' (λ a. Pure (Some a)) f) (same (Pure None))

-- ---- rules for expressions

-- operands derive as much, the first and each further one, and operators are the same
chain_within : (r : Rank) (P P' : Rule Spot Expr) → Within P P' → Within (Chain r P) (Chain r P')
chain_within r P P' f = before _ _ _ (then_within _ _ _ _ f (λ a. before _ _ _ (many_within _ _ (behind _ _ _ (λ o. before _ _ _ f)))))

-- both sides derive as much, and relations are the same
comparison_within : (P P' : Rule Spot Expr) → Within P P' → Within (Comparison P) (Comparison P')
comparison_within P P' f = then_within _ _ _ _ f (λ a. before _ _ _ (optional_within _ _ (behind _ _ _ (λ o. before _ _ _ f))))

-- step by step from unary through products and sums
comparison_of_within : (U U' : Rule Spot Expr) → Within U U' → Within (ComparisonOf U) (ComparisonOf U')
comparison_of_within U U' f = comparison_within _ _ (chain_within rank.Sum _ _ (chain_within rank.Product U U' f))

-- step by step from negations through conjunctions
expression_of_within : (N N' : Rule Spot Expr) → Within N N' → Within (ExpressionOf N) (ExpressionOf N')
expression_of_within N N' f = chain_within rank.Disjunction _ _ (chain_within rank.Conjunction N N' f)

-- the parentheses are the same
parens_within : {A : Type 0} (P P' : Rule Spot A) → Within P P' → Within (InParens P) (InParens P')
parens_within P P' f = behind _ _ _ (λ c. before _ _ _ f)

-- so many, one after another
times_within : {A : Type 0} (P P' : Rule Spot A) → Within P P' → (n : ℕ) → Within (Times P n) (Times P' n)
times_within P P' f zero = same (Pure [])
times_within P P' f (suc n) = then_within _ _ _ _ f (λ a. before _ _ _ (times_within P P' f n))

-- the comma is the same
after_comma_within : (E E' : Rule Spot Expr) → Within E E' → Within (AfterComma E) (AfterComma E')
after_comma_within E E' f = behind _ _ _ (λ c. f)

-- none, or the first and so many others
arguments_within : (E E' : Rule Spot Expr) → Within E E' → (n : ℕ) → Within (Arguments E n) (Arguments E' n)
arguments_within E E' f zero = same (Pure [])
arguments_within E E' f (suc n) = then_within _ _ _ _ f (λ a. before _ _ _ (times_within _ _ (after_comma_within E E' f) n))

-- the first and any number of others
elements_within : (E E' : Rule Spot Expr) → Within E E' → Within (Elements E) (Elements E')
elements_within E E' f = before _ _ _ (then_within _ _ _ _ f (λ a. before _ _ _ (many_within _ _ (after_comma_within E E' f))))

-- kind and dot are the same, and the key derives as much
targeted_within : (E E' : Rule Spot Expr) → Within E E' → Within (Targeted E) (Targeted E')
targeted_within E E' f = behind _ _ _ (λ k. before _ _ _ (parens_within E E' f))

-- target and arguments derive as much, and the word is the same
read_within : (E E' : Rule Spot Expr) → Within E E' → Within (Read E) (Read E')
read_within E E' f =
    then_within _ _ _ _ (targeted_within E E' f) (λ t. behind _ _ _ (λ o. before _ _ _ (parens_within _ _ (arguments_within E E' f o.1.arguments))))

-- there are elements, which derive as much, or none
texts_within : (E E' : Rule Spot Expr) → Within E E' → Within (Texts E) (Texts E')
texts_within E E' f = behind _ _ _ (λ c. before _ _ _ (or_within _ _ _ _ (elements_within E E' f) (same (Pure []))))

-- each form has what it opens as its part, and that derives as much
opened_within : (U U' E E' : Rule Spot Expr) → Within U U' → Within E E' → Within (Opened U E) (Opened U' E')
opened_within U U' E E' f g =
    or_within _ _ _ _ (behind _ _ _ (λ c. before _ _ _ f))
    (or_within _ _ _ _ (before _ _ _ (parens_within E E' g))
    (or_within _ _ _ _ (behind _ _ _ (λ c. before _ _ _ (parens_within E E' g)))
    (or_within _ _ _ _ (behind _ _ _ (λ c. before _ _ _ (parens_within E E' g)))
    (or_within _ _ _ _ (texts_within E E' g) (read_within E E' g)))))

-- ---- one level more

-- what one level fewer derives, one level more derives too
record More (n : ℕ) : Type 0 where
  unary : Within (Unary n) (Unary (suc n))
  negation : Within (Negation n) (Negation (suc n))

-- what is opened derives more by the level below, and leaves are the same
unary_more_at : (n : ℕ) → More n → Within (Unary (suc n)) (Unary (suc (suc n)))
unfolding Unary
unary_more_at n m = or_within _ _ _ _ (opened_within _ _ _ _ m.unary (expression_of_within _ _ m.negation)) (same LeafRule)

-- what stands behind `not` derives more by the level below, and comparisons do by their unary ones
negation_more_at : (n : ℕ) → More n → Within (Unary (suc n)) (Unary (suc (suc n))) → Within (Negation (suc n)) (Negation (suc (suc n)))
unfolding Unary
negation_more_at n m u = or_within _ _ _ _ (behind _ _ _ (λ c. before _ _ _ m.negation)) (comparison_of_within _ _ u)

-- level by level; at 0 there are leaves alone, which are unary with a level too
more_levels : (n : ℕ) → More n
unfolding Unary
more_levels zero =
    record { unary = λ ts us e r. inr r; negation = λ ts us e r. inr (comparison_of_within _ _ (λ a b x q. inr q) ts us e r) }
more_levels (suc n) =
    let m = more_levels n in
    let u = unary_more_at n m in
    record { unary = u; negation = negation_more_at n m u }

-- ---- places

-- the rule of each place
abbrev pub rule_at : ℕ → Place → Rule Spot Expr
rule_at n place.Disjunction = Expression n
rule_at n place.Conjunction = Chain rank.Conjunction (Negation n)
rule_at n place.Negation = Negation n
rule_at n place.Comparison = ComparisonOf (Unary n)
rule_at n place.Sum = Chain rank.Sum (Chain rank.Product (Unary n))
rule_at n place.Product = Chain rank.Product (Unary n)
rule_at n place.Unary = Unary n

-- at each place
pub deeper : (n : ℕ) (p : Place) → Within (rule_at n p) (rule_at (suc n) p)
deeper n place.Disjunction = expression_of_within _ _ (more_levels n).negation
deeper n place.Conjunction = chain_within rank.Conjunction _ _ (more_levels n).negation
deeper n place.Negation = (more_levels n).negation
deeper n place.Comparison = comparison_of_within _ _ (more_levels n).unary
deeper n place.Sum = chain_within rank.Sum _ _ (chain_within rank.Product _ _ (more_levels n).unary)
deeper n place.Product = chain_within rank.Product _ _ (more_levels n).unary
deeper n place.Unary = (more_levels n).unary

-- an operand alone is a chain
pub alone : (r : Rank) (P : Rule Spot Expr) → Within P (Chain r P)
alone r P ts us e x = record {
  value = (e, []);
  middle = us;
  first = record {
    value = e;
    middle = us;
    first = x;
    second = record
        { value = []; middle = us; first = none us; second = record { is = refl; here = refl } };
  };
  second = record { is = refl; here = refl };
}

-- a side alone is a comparison
uncompared : (P : Rule Spot Expr) → Within P (Comparison P)
uncompared P ts us e x = record {
  value = e;
  middle = us;
  first = x;
  second = record { value = None; middle = us; first = inr (record { is = refl; here = refl }); second = record { is = refl; here = refl } };
}

-- a comparison needs no `not`
unnegated : (n : ℕ) → Within (ComparisonOf (Unary n)) (Negation n)
unfolding Unary
unnegated zero ts us e x = x
unnegated (suc n) ts us e x = inr x

-- the place of this tightness
place_of : ℕ → Place
place_of zero = place.Disjunction
place_of (suc zero) = place.Conjunction
place_of (suc (suc zero)) = place.Negation
place_of (suc (suc (suc zero))) = place.Comparison
place_of (suc (suc (suc (suc zero)))) = place.Sum
place_of (suc (suc (suc (suc (suc zero))))) = place.Product
place_of (suc (suc (suc (suc (suc (suc m)))))) = place.Unary

-- place by place: no two have one tightness
place-tightness : (p : Place) → place_of (tightness p) ≡ p
unfolding place_of
place-tightness place.Disjunction = refl
place-tightness place.Conjunction = refl
place-tightness place.Negation = refl
place-tightness place.Comparison = refl
place-tightness place.Sum = refl
place-tightness place.Product = refl
place-tightness place.Unary = refl

-- the next looser one
looser : (n m : ℕ) → Within (rule_at n (place_of (suc m))) (rule_at n (place_of m))
unfolding place_of
looser n zero = alone rank.Disjunction _
looser n (suc zero) = alone rank.Conjunction _
looser n (suc (suc zero)) = unnegated n
looser n (suc (suc (suc zero))) = uncompared _
looser n (suc (suc (suc (suc zero)))) = alone rank.Sum _
looser n (suc (suc (suc (suc (suc zero))))) = alone rank.Product _
looser n (suc (suc (suc (suc (suc (suc m)))))) = same (Unary n)

-- so many places tighter than m
above : ℕ → ℕ → ℕ
above zero m = m
above (suc k) m = suc (above k m)

-- so many more than m is their sum
above-add : (k m : ℕ) → above k m ≡ k + m
unfolding above
above-add zero m = omega arith
above-add (suc k) m = let e = above-add k m in omega arith

-- step by step, each to the next looser one
all_looser : (n k m : ℕ) → Within (rule_at n (place_of (above k m))) (rule_at n (place_of m))
unfolding above
all_looser n zero m ts us e x = x
all_looser n (suc k) m ts us e x = all_looser n k m ts us e (looser n (above k m) ts us e x)

-- from a place to each that is no tighter
pub looser_at : (n : ℕ) (p q : Place) → tightness q ≤ tightness p → Within (rule_at n p) (rule_at n q)
looser_at n p q h ts us e x =
    let far : above (tightness p - tightness q) (tightness q) ≡ tightness p = above-add _ _ ∙ omega arith in
    let from = ap place_of far ∙ place-tightness p in
    subst (λ z. rule_at n z ts e us) (place-tightness q)
    (all_looser n (tightness p - tightness q) (tightness q) ts us e (subst (λ z. rule_at n z ts e us) (sym from) x))
