-- A text as a list of tokens, with the spaces between them: one space stands between two tokens, unless the first lets
-- none follow or the second lets none stand before it.
use Rattle.std.specs.Prelude.{◌≡◌, Bool, true, false, ◌&&◌, List, [], ◌∷◌, ◌++◌, fold, codes, refl}
use Rattle.std.specs.Fmt.{signed_decimal}
use Rattle.plain_data.specs.Texts.{Bytes}
use Rattle.rdt_types.specs.Printed.{printed_text}
use Rattle.txn_grammar.specs.declared.symbol.Symbol.{Symbol}
use Rattle.txn_grammar.specs.declared.symbol.Symbol.TheVariants as s
use Rattle.txn_grammar.specs.declared.token.Token.{Token}
use Rattle.txn_grammar.specs.Spellings.{spelling, same_symbol}
use Rattle.txn_grammar.specs.declared.token.Token.TheVariants as t
use Rattle.txn_print.specs.declared.line.Line.{Line}

-- ---- the bytes of a token

-- reserved words and marks as the grammar spells them, numbers in decimal, texts in quotes with their escapes
abbrev pub printed : Token → Bytes
printed (t.Symbol symbol) = spelling symbol
printed (t.Name name) = name
printed (t.Number value) = signed_decimal value
printed (t.Text bytes) = printed_text bytes
printed t.Malformed = []

-- ---- spaces

-- a token, and whether a space may stand before it and behind it
pub record Piece : Type 0 where
  pub token : Token
  pub before : Bool
  pub after : Bool

-- one space on each side
abbrev pub spaced : Token → Piece
spaced token = record { token = token; before = true; after = true }

-- what opens something: none behind it
abbrev pub opening : Symbol → Piece
opening symbol = record { token = t.Symbol symbol; before = true; after = false }

-- what closes or separates something: none before it
abbrev pub closing : Symbol → Piece
closing symbol = record { token = t.Symbol symbol; before = false; after = true }

-- what stands inside of an operation: none on either side
abbrev pub joining : Symbol → Piece
joining symbol = record { token = t.Symbol symbol; before = false; after = false }

-- a reserved word, with a space on each side
abbrev pub word : Symbol → Piece
word symbol = spaced (t.Symbol symbol)

-- ---- the text

-- a space, or none
abbrev pub space_if : Bool → Bytes
space_if true = 32 ∷ []
space_if false = []

-- these bytes more, behind a space where one may stand
abbrev pub put : Line → Bool → Bytes → Bool → Line
put line before bytes after = record {
  text = line.text ++ (space_if (line.space && before) ++ bytes);
  space = after;
}

-- one token more
abbrev pub write : Line → Piece → Line
write line piece = put line piece.before (printed piece.token) piece.after

-- pieces, one after another
abbrev pub written : Line → List Piece → Line
written line pieces = fold write line pieces

-- nothing written yet
abbrev pub empty : Line
empty = record { text = []; space = false }

-- the text of the tokens
abbrev pub text : List Piece → Bytes
text pieces = (written empty pieces).text

-- `emit -x;`
spaces-between : text (word s.Emit ∷ opening s.Minus ∷ spaced (t.Name (codes "x")) ∷ closing s.Semicolon ∷ []) ≡ codes "emit -x;"
unfolding spelling same_symbol
spaces-between = refl
