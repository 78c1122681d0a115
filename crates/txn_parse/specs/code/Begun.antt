-- Rules of expressions whose first operand is read already: what is read behind it. The lemmas `chain_begins` and
-- `expression_begins` of proofs/Begun tie them to the whole rules in specs/code/Reader of `txn_grammar`.
use Rattle.std.specs.Prelude.{Bool, ◌||◌, Option}
use Rattle.txn_trees.specs.declared.expression.Expr.{Expr}
use Rattle.predictive_parsing.specs.Reading.{Reader, ◌>>=◌, pure, many, optional}
use Rattle.txn_grammar.specs.declared.rank.Rank.{Rank}
use Rattle.txn_grammar.specs.declared.rank.Rank.TheVariants as rank
use Rattle.txn_grammar.specs.declared.token.Spot.{Spot}
use Rattle.txn_grammar.specs.Trees.{chained, compared}
use Rattle.txn_grammar.specs.code.Reader as reader

unfoldable pub chain : Rank → Reader Spot Expr → Expr → Reader Spot Expr
chain rank operand_read first = do
  others ← many (reader.begins_operator rank) (reader.further rank operand_read)
  pure (chained (first, others))

unfoldable pub comparison : Reader Spot Expr → Expr → Reader Spot Expr
comparison side left = do
  more ← optional reader.begins_relation (reader.other_side side)
  pure (compared left more)

-- of each rule, by the reader of unary expressions
unfoldable pub sum : Reader Spot Expr → Expr → Reader Spot Expr
sum unary first = do
  product ← chain rank.Product unary first
  chain rank.Sum (reader.chain rank.Product unary) product

unfoldable pub comparison_of : Reader Spot Expr → Expr → Reader Spot Expr
comparison_of unary first = do
  left ← sum unary first
  comparison (reader.chain rank.Sum (reader.chain rank.Product unary)) left

-- by that of negations too
unfoldable pub expression_of : Reader Spot Expr → Reader Spot Expr → Expr → Reader Spot Expr
expression_of negation unary first = do
  compared ← comparison_of unary first
  conjunction ← chain rank.Conjunction negation compared
  chain rank.Disjunction (reader.chain rank.Conjunction negation) conjunction

-- whether what is ahead joins an operand to another
unfoldable pub joins : Option Spot → Bool
joins ahead =
    reader.begins_operator rank.Product ahead || (reader.begins_operator rank.Sum ahead || (reader.begins_relation ahead
    || (reader.begins_operator rank.Conjunction ahead || reader.begins_operator rank.Disjunction ahead)))
