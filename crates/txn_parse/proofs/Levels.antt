-- How readers go down the levels, and choose by what is ahead.
use Rattle.std.proofs.Common.{◌≡◌, ℕ, suc, ◌-◌, ◌<◌, Bool, true, false, ◌||◌, List, [], ◌∷◌, ◌++◌, length, Ok, Err, Option, Some, None, unwrap_or, refl, ap, sym, ◌∙◌, arith, cond}
use Rattle.txn_trees.specs.declared.expression.Expr.{Expr}
use Rattle.txn_trees.specs.declared.statement.Stmt.{Stmt}
use Rattle.predictive_parsing.specs.Reading.{Reader, next, begins, is_made, and_then, pure}
use Rattle.txn_grammar.specs.declared.form.Leaf.{Leaf}
use Rattle.txn_grammar.specs.declared.form.Leaf.TheVariants as leaf
use Rattle.txn_grammar.specs.declared.form.Opener.{Opener}
use Rattle.txn_grammar.specs.declared.form.Opener.TheVariants as opener
use Rattle.txn_grammar.specs.declared.form.Simple.{Simple}
use Rattle.txn_grammar.specs.declared.form.Simple.TheVariants as simple
use Rattle.txn_grammar.specs.declared.form.Nesting.{Nesting}
use Rattle.txn_grammar.specs.declared.form.Nesting.TheVariants as nesting
use Rattle.txn_grammar.specs.declared.token.Spot.{Spot}
use Rattle.txn_grammar.specs.code.Forms.{of_next, leaf_at, opener_at, simple_at, nesting_at}
use Rattle.txn_grammar.specs.code.Reader.{a_leaf, leaf_read, opened, opened_read, unary_of, negation_of, comparison_of}
use Rattle.txn_grammar.specs.code.Reader.{unary, negation, expression, arguments_read, times, after_comma, simple_stmt}
use Rattle.txn_grammar.specs.code.Reader.{simple_read, nesting_stmt, nesting_read, statement, begins_simple}
use Rattle.txn_grammar.specs.code.Reader.{begins_nesting, begins_statement}
use Rattle.predictive_parsing.specs.Reading.{Outcome, turns, many}
use Rattle.predictive_parsing.proofs.Loops.{with_front}
use Rattle.txn_parse.specs.code.Lists.{and_more}
use Rattle.txn_parse.proofs.Heads.{begins_at}

-- the leaf that is ahead
pub leaf_chosen : (ts : List Spot) (o : Option Leaf) (b : Leaf) → o ≡ of_next leaf_at (next ts) → b ≡ unwrap_or o leaf.Name → a_leaf ts ≡ leaf_read b ts
unfolding a_leaf
leaf_chosen ts o b e k = ap (λ x. leaf_read (unwrap_or x leaf.Name) ts) (sym e) ∙ ap (λ x. leaf_read x ts) (sym k)

-- with no level left
pub unary_last : (n : ℕ) (ts : List Spot) → n ≡ 0 → unary n ts ≡ a_leaf ts
unfolding unary
unary_last n ts e = ap (λ m. unary m ts) e

module _ (n : ℕ) (ts : List Spot) (some : 0 < n) where
  -- with one, what is unary goes by the test on what is ahead
  by : (b : Bool) → begins opener_at (next ts) ≡ b → unary n ts ≡ cond b (opened (unary (n - 1)) (expression (n - 1)) ts) (a_leaf ts)
  unfolding unary expression unary_of
  by b h =
      let e : n ≡ suc (n - 1) = omega arith in
      ap (λ m. unary m ts) e ∙ ap (λ x. cond x (opened (unary (n - 1)) (expression (n - 1)) ts) (a_leaf ts)) h

  -- what is ahead opens a level
  pub unary_opens : (b : Opener) → Some b ≡ of_next opener_at (next ts) → unary n ts ≡ opened_read (unary (n - 1)) (expression (n - 1)) b ts
  unfolding opened
  unary_opens b h =
      by true (begins_at opener_at (next ts) ∙ ap is_made (sym h))
      ∙ ap (λ x. opened_read (unary (n - 1)) (expression (n - 1)) (unwrap_or x opener.Read) ts) (sym h)

  -- or is a leaf
  pub unary_leaf : None ≡ of_next opener_at (next ts) → unary n ts ≡ a_leaf ts
  unary_leaf h = by false (begins_at opener_at (next ts) ∙ ap is_made (sym h))

-- without a level a negation is a comparison of what is unary without one
pub negation_last : (n : ℕ) (ts : List Spot) → n ≡ 0 → negation n ts ≡ comparison_of (unary n) ts
unfolding unary
negation_last n ts e = ap (λ m. negation m ts) e ∙ ap (λ m. comparison_of (unary m) ts) (sym e)

-- with a level left the reader has a case for `not`, and what stands behind that has one less
pub negation_deeper : (n : ℕ) (ts : List Spot) → 0 < n → negation n ts ≡ negation_of (negation (n - 1)) (unary n) ts
unfolding unary expression
negation_deeper n ts some = let e : n ≡ suc (n - 1) = omega arith in ap (λ m. negation m ts) e ∙ ap (λ m. negation_of (negation (n - 1)) (unary m) ts) (sym e)

-- what was found before goes in front of what is read behind it
in_front : {A : Type 0} (found : List A) (o : Outcome Spot (List A)) → with_front found o ≡ and_then o (λ more. pure (found ++ more))
in_front found (Ok read) = refl
in_front found (Err ts) = refl

module _ {A : Type 0} (starts : Option Spot → Bool) (item : Reader Spot A) (found : List A) (ts : List Spot) where
  -- as a loop over so many turns begins, what was found before is found
  pub turns_begin : (n : ℕ) → with_front found (turns starts item (n - 0) ts) ≡ and_more found (turns starts item n) ts
  turns_begin n =
      let k : n - 0 ≡ n = omega arith in
      ap (λ m. with_front found (turns starts item m ts)) k ∙ in_front found (turns starts item n ts)

  -- and where as many turns are left as items
  pub many_begin : with_front found (turns starts item (length ts - 0) ts) ≡ and_more found (many starts item) ts
  unfolding many
  many_begin = turns_begin (length ts)

-- no argument, and some
pub arguments_none : (e : Reader Spot Expr) (n : ℕ) (ts : List Spot) → n ≡ 0 → arguments_read e n ts ≡ Ok ([], ts)
unfolding arguments_read
arguments_none e n ts h = ap (λ m. arguments_read e m ts) h

-- where one is asked for, the first is read, and then those behind commas, one fewer
pub arguments_some : (e : Reader Spot Expr) (n : ℕ) (ts : List Spot) → 0 < n
    → arguments_read e n ts ≡ and_then (e ts)
    (λ first us. and_then (times (after_comma e) (n - 1) us) (λ rest. pure (first ∷ rest)))
unfolding arguments_read
arguments_some e n ts h = let k : n ≡ suc (n - 1) = omega arith in ap (λ m. arguments_read e m ts) k

-- ---- statements

-- the form that was found ahead is the one that the reader chooses
pub simple_chosen : (e : Reader Spot Expr) (ts : List Spot) (o : Option Simple) (b : Simple) → o ≡ of_next simple_at (next ts) → b ≡ unwrap_or o simple.Emit
    → simple_stmt e ts ≡ simple_read e b ts
unfolding simple_stmt
simple_chosen e ts o b h k = ap (λ x. simple_read e (unwrap_or x simple.Emit) ts) (sym h) ∙ ap (λ x. simple_read e x ts) (sym k)

-- the form that was found ahead is the one that the reader chooses, also of statements that open a level
pub nesting_chosen : (e a : Reader Spot Expr) (starts : Option Spot → Bool) (p : Reader Spot Stmt) (ts : List Spot)
    (o : Option Nesting) (b : Nesting) → o ≡ of_next nesting_at (next ts) → b ≡ unwrap_or o nesting.Write
    → nesting_stmt e a starts p ts ≡ nesting_read e a starts p b ts
unfolding nesting_stmt
nesting_chosen e a starts p ts o b h k =
    ap (λ x. nesting_read e a starts p (unwrap_or x nesting.Write) ts) (sym h) ∙ ap (λ x. nesting_read e a starts p x ts) (sym k)

-- with no level left
pub statement_last : (n : ℕ) (ts : List Spot) → n ≡ 0 → statement n ts ≡ simple_stmt (expression n) ts
unfolding statement
statement_last n ts e = ap (λ m. statement m ts) e ∙ ap (λ m. simple_stmt (expression m) ts) (sym e)

-- without a level a statement begins as a simple one
pub begins_last : (n : ℕ) (h : Option Spot) → n ≡ 0 → begins_statement n h ≡ begins_simple h
unfolding begins_statement
begins_last n h e = ap (λ m. begins_statement m h) e

-- with one
pub begins_deeper : (n : ℕ) (h : Option Spot) → 0 < n → begins_statement n h ≡ begins_simple h || begins_nesting h
unfolding begins_statement
begins_deeper n h some = let e : n ≡ suc (n - 1) = omega arith in ap (λ m. begins_statement m h) e

-- statements that open a level, with one less for the arguments and the statements in them
abbrev nested : ℕ → Reader Spot Stmt
nested n = nesting_stmt (expression n) (expression (n - 1)) (begins_statement (n - 1)) (statement (n - 1))

-- with a level left the reader of statements goes by whether a simple one begins
statement_by : (n : ℕ) (ts : List Spot) (b : Bool) → 0 < n → begins_simple (next ts) ≡ b → statement n ts ≡ cond b (simple_stmt (expression n) ts) (nested n ts)
unfolding statement
statement_by n ts b some h =
    let e : n ≡ suc (n - 1) = omega arith in
    ap (λ m. statement m ts) e ∙ ap
    (λ m. cond (begins_simple (next ts)) (simple_stmt (expression m) ts)
    (nesting_stmt (expression m) (expression (n - 1)) (begins_statement (n - 1)) (statement (n - 1)) ts)) (sym e)
    ∙ ap (λ x. cond x (simple_stmt (expression n) ts) (nested n ts)) h

-- a simple one begins, so it is read
pub statement_simple : (n : ℕ) (ts : List Spot) → 0 < n → begins_simple (next ts) ≡ true → statement n ts ≡ simple_stmt (expression n) ts
statement_simple n ts some h = statement_by n ts true some h

-- no simple one begins, so one that opens a level is read
pub statement_nests : (n : ℕ) (ts : List Spot) → 0 < n → begins_simple (next ts) ≡ false
    → statement n ts ≡ nesting_stmt (expression n) (expression (n - 1)) (begins_statement (n - 1)) (statement (n - 1)) ts
statement_nests n ts some h = statement_by n ts false some h
