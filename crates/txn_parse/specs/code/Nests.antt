-- What stands inside a level, and functions that read it. The clauses of `placed_read` and `statement`, which are what is called
-- so, tie them to the readers of specs/code/Reader of `txn_grammar`, with any number of levels left.
use Rattle.std.specs.Prelude.{ℕ, ◌<◌, Result}
use Rattle.std.specs.declared.alloc.Global.{Global}
use denote.Ref.{MutBor}
use Rattle.std.specs.Prelude.{List}
use Rattle.plain_data.specs.declared.or_no_memory.OrNoMemory.{OrNoMemory}
use Rattle.predictive_parsing.specs.declared.refused.Refused.{Refused}
use Rattle.predictive_parsing.specs.Reading.{Reader}
use Rattle.predictive_parsing.specs.Reads.{Reads}
use Rattle.txn_trees.specs.declared.expression.Expr.{Expr}
use Rattle.txn_trees.specs.declared.statement.Stmt.{Stmt}
use Rattle.txn_grammar.specs.declared.token.Spot.{Spot}
use Rattle.txn_grammar.specs.code.Reader.{expression, negation, unary, statement}
use Rattle.txn_parse.specs.declared.place.Place.{Place}
use Rattle.txn_parse.specs.declared.place.Place.TheVariants as place

-- what is read at a place with so many levels left
abbrev pub placed : ℕ → Place → Reader Spot Expr
placed n place.Whole = expression n
placed n place.Negation = negation n
placed n place.Unary = unary n

-- The function that is called reads what stands at each place with fewer levels left than these.
pub record Nests (levels : ℕ) (pre : Global → MutBor (List Spot) → ℕ → Place → Type 0)
    (post : Global → MutBor (List Spot) → ℕ → Place → Result Expr (OrNoMemory Refused) → MutBor (List Spot) → Type 0) : Type 0 where
  pub callable : (alloc : Global) (old : MutBor (List Spot)) (n : ℕ) (place : Place) → n < levels → pre alloc old n place
  pub reads : (alloc : Global) (old new : MutBor (List Spot)) (n : ℕ) (place : Place) (r : Result Expr (OrNoMemory Refused))
      → n < levels → post alloc old n place r new
      → Reads (placed n place old.now) r new.now

-- The function that is called reads a statement with fewer levels left than these.
pub record NestsStatements (levels : ℕ) (pre : Global → MutBor (List Spot) → ℕ → Type 0)
    (post : Global → MutBor (List Spot) → ℕ → Result Stmt (OrNoMemory Refused) → MutBor (List Spot) → Type 0) : Type 0 where
  pub callable : (alloc : Global) (old : MutBor (List Spot)) (n : ℕ) → n < levels → pre alloc old n
  pub reads : (alloc : Global) (old new : MutBor (List Spot)) (n : ℕ) (r : Result Stmt (OrNoMemory Refused)) → n < levels
      → post alloc old n r new → Reads (statement n old.now) r new.now
