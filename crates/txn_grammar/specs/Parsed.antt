-- The body of a text, and the column where there is none.
use Rattle.std.specs.Prelude.{◌≡◌, ℕ, ◌+◌, List, [], ◌∷◌, length, Option, Result, Ok, Err}
use Rattle.std.specs.Result.{result_ok}
use Rattle.txn_trees.specs.declared.statement.Body.{Body}
use Rattle.predictive_parsing.specs.Reading.{whole}
use Rattle.predictive_parsing.specs.Stops.{StopsAt}
use Rattle.txn_grammar.specs.declared.token.Spot.{Spot}
use Rattle.txn_grammar.specs.Characters.{Text}
use Rattle.txn_grammar.specs.Lexer.{lex, Spelled}
use Rattle.txn_grammar.specs.Grammar.{BodyRule}
use Rattle.txn_grammar.specs.code.Reader.{body}

-- the one body of the grammar that the text is, or none
unfoldable pub parsed : Text → Option Body
parsed z = result_ok (whole body (lex z))

-- the column of the first token, or of the end where there is none
abbrev pub first_column : ℕ → List Spot → ℕ
first_column end [] = end
first_column end (spot ∷ rest) = spot.column

-- The column at which a text stops being a body: the tokens before it go on to some body, and with the token at it no
-- body begins, whatever comes then. Where all tokens go on to a body and none ends there, it is the one behind the
-- text's last byte, blanks counted.
pub record IsSyntaxColumn (z : Text) (column : ℕ) : Type 0 where
  pub rest : List Spot
  pub stops : StopsAt Spelled BodyRule (lex z) rest
  pub place : column ≡ first_column (length z + 1) rest

-- ---- the column, computed

-- what is left where a reader refuses
abbrev pub refused : Result Body (List Spot) → List Spot
refused (Ok found) = []
refused (Err rest) = rest

-- the column at which a text that is no body stops being one
unfoldable pub syntax_column : Text → ℕ
syntax_column z = first_column (length z + 1) (refused (whole body (lex z)))
