-- How the call that reads a text ends, by what the reader of bodies answers and leaves. The lemmas of proofs/Wholes tie it to
-- `parsed`, `IsBody` and `IsSyntaxColumn` of `txn_grammar`, which are all that the clauses of `parse` speak of.
use Rattle.std.specs.Prelude.{ℕ, ◌==◌, if◌then◌else◌, List, length, Result, Ok, Err}
use Rattle.plain_data.specs.declared.or_no_memory.OrNoMemory.{OrNoMemory}
use Rattle.plain_data.specs.declared.or_no_memory.OrNoMemory.TheVariants as stop
use Rattle.predictive_parsing.specs.declared.refused.Refused.{Refused}
use Rattle.txn_trees.specs.declared.statement.Body.{Body}
use Rattle.txn_grammar.specs.declared.token.Spot.{Spot}
use Rattle.txn_grammar.specs.Parsed.{first_column}
use Rattle.txn_parse.specs.declared.whole.ParseError.{ParseError}
use Rattle.txn_parse.specs.declared.whole.ParseError.TheVariants as error

-- A body is answered where no token is left. Else it is the column of the token ahead, or of the end; and want of memory
-- where memory ran out, and nowhere else.
abbrev pub ended : ℕ → Result Body (OrNoMemory Refused) → List Spot → Result Body ParseError
ended end (Ok found) left = if length left == 0 then Ok found else Err (error.Syntax (first_column end left))
ended end (Err stop.NoMemory) left = Err error.NoMemory
ended end (Err (stop.Cause refused)) left = Err (error.Syntax (first_column end left))
