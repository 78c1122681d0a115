-- What it means that the canonical text of a body is read back.
use Rattle.std.specs.Prelude.{◌≡◌, List, map, Some}
use Rattle.txn_trees.specs.declared.statement.Body.{Body}
use Rattle.txn_grammar.specs.declared.token.Spot.{Spot}
use Rattle.txn_grammar.specs.declared.token.Token.{Token}
use Rattle.txn_grammar.specs.Lexer.{lex}
use Rattle.txn_grammar.specs.Grammar.{IsBody}
use Rattle.txn_grammar.specs.Parsed.{parsed}
use Rattle.txn_print.specs.Canonical.{canonical}
use Rattle.txn_print.specs.Columns.{SameButColumns}

-- tokens without their columns
abbrev pub tokens : List Spot → List Token
tokens = map (λ (s : Spot). s.token)

-- The grammar derives a body from the canonical text, within its levels, and it is the body that was printed, columns
-- aside.
pub record ReadsBack (body : Body) : Type 0 where
  pub read : Body
  pub derived : IsBody (lex (canonical body)) read
  pub same : SameButColumns read body

-- The function from texts finds that body.
abbrev pub ParsesBack : Body → Type 0
ParsesBack body = (read : Body) × (parsed (canonical body) ≡ Some read) × SameButColumns read body
