-- Statements that open a level, with so many left: what stands inside has one less. Each is the reader of its name in
-- specs/code/Reader of `txn_grammar`; the lemma `statement_nests` of proofs/Levels ties them to that of all statements.
use Rattle.std.specs.Prelude.{ℕ, ◌-◌, Bool, List, Option}
use Rattle.txn_trees.specs.declared.statement.Stmt.{Stmt}
use Rattle.predictive_parsing.specs.Reading.{Reader, many, optional}
use Rattle.txn_grammar.specs.declared.form.Nesting.{Nesting}
use Rattle.txn_grammar.specs.declared.symbol.Symbol.TheVariants as symbol
use Rattle.txn_grammar.specs.declared.token.Spot.{Spot}
use Rattle.txn_grammar.specs.code.Reader as reader
use Rattle.txn_parse.specs.code.Lists as lists

-- whether a statement begins inside, and the statement
abbrev pub begins_inside : ℕ → Option Spot → Bool
begins_inside levels = reader.begins_statement (levels - 1)

abbrev pub inside : ℕ → Reader Spot Stmt
inside levels = reader.statement (levels - 1)

-- these statements, and as many more as there are
abbrev pub and_more : ℕ → List Stmt → Reader Spot (List Stmt)
and_more levels found = lists.and_more found (many (begins_inside levels) (inside levels))

abbrev pub block : ℕ → Reader Spot (List Stmt)
block levels = reader.block (begins_inside levels) (inside levels)

abbrev pub otherwise : ℕ → Reader Spot (List Stmt)
otherwise levels = reader.otherwise_read (begins_inside levels) (inside levels)

abbrev pub any_otherwise : ℕ → Reader Spot (Option (List Stmt))
any_otherwise levels = optional (reader.sees symbol.Else) (otherwise levels)

abbrev pub if_stmt : ℕ → Reader Spot Stmt
if_stmt levels = reader.if_stmt (reader.expression levels) (begins_inside levels) (inside levels)

abbrev pub for_stmt : ℕ → Reader Spot Stmt
for_stmt levels = reader.for_stmt (reader.expression levels) (begins_inside levels) (inside levels)

abbrev pub nesting_read : ℕ → Nesting → Reader Spot Stmt
nesting_read levels = reader.nesting_read (reader.expression levels) (reader.expression (levels - 1)) (begins_inside levels) (inside levels)

abbrev pub nesting_stmt : ℕ → Reader Spot Stmt
nesting_stmt levels = reader.nesting_stmt (reader.expression levels) (reader.expression (levels - 1)) (begins_inside levels) (inside levels)
