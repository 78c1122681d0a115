-- The tokens of a text. Each is the longest that fits; blanks separate tokens and mean nothing else.
use Rattle.std.specs.Prelude.{◌≡◌, ℕ, zero, suc, ◌+◌, ◌-◌, ◌==◌, Bool, true, false, if◌then◌else◌, nat_lt, List, []}
use Rattle.std.specs.Prelude.{◌∷◌, length, take, slice_index, ℤ, Option, Some, None, Ok, Err}
use Rattle.std.specs.List.{prefix_len}
use Rattle.predictive_parsing.specs.Reading.{Outcome}
use Rattle.dtext.specs.Characters.{is_letter, is_digit, is_word, is_blank}
use Rattle.dtext.specs.code.Reading.{text}
use Rattle.txn_grammar.specs.declared.limit.TheConstants.{LONGEST_NAME}
use Rattle.txn_grammar.specs.declared.symbol.Symbol.{Symbol}
use Rattle.txn_grammar.specs.declared.token.Token.{Token}
use Rattle.txn_grammar.specs.declared.token.Token.TheVariants as t
use Rattle.txn_grammar.specs.declared.token.Spot.{Spot}
use Rattle.txn_grammar.specs.declared.token.Lexeme.{Lexeme}
use Rattle.txn_grammar.specs.Characters.{Text}
use Rattle.txn_grammar.specs.Spellings.{reserved_word, mark}
use Rattle.txn_grammar.specs.Numbers.{number_value}

-- a token, and how many bytes spell it
abbrev pub lexeme : Token → ℕ → Lexeme
lexeme token len = record { token = token; len = len }

-- a reserved word, or else a name
abbrev pub reserved_or_name : Text → Option Symbol → Token
reserved_or_name word (Some symbol) = t.Symbol symbol
reserved_or_name word None = t.Name word

-- a reserved word, or else a name; malformed where it is too long
unfoldable pub word_token : Text → Token
word_token word = if nat_lt LONGEST_NAME (length word) then t.Malformed else reserved_or_name word (reserved_word word)

-- a letter, then letters, digits and `_`
unfoldable pub word_at : Text → Lexeme
word_at z = let len = prefix_len is_word z in lexeme (word_token (take len z)) len

-- a number, where it is within its bounds
abbrev pub number_token : Option ℤ → Token
number_token (Some value) = t.Number value
number_token None = t.Malformed

-- a run of digits
unfoldable pub number_at : Text → Lexeme
number_at z = let len = prefix_len is_digit z in lexeme (number_token (number_value (take len z))) len

-- a text in quotes; one that isn't well formed counts as its first byte
abbrev pub quoted_lexeme : Text → Outcome ℕ Text → Lexeme
quoted_lexeme z (Ok read) = lexeme (t.Text read.0) (length z - length read.1)
quoted_lexeme z (Err rest) = lexeme t.Malformed 1

-- a text in quotes, as every text of a value is spelled
unfoldable pub text_at : Text → Lexeme
text_at z = quoted_lexeme z (text z)

-- a mark of one byte, where it is one
abbrev pub short_lexeme : Option Symbol → Lexeme
short_lexeme (Some symbol) = lexeme (t.Symbol symbol) 1
short_lexeme None = lexeme t.Malformed 1

-- the mark of two bytes, else that of one
abbrev pub mark_lexeme : Option Symbol → Option Symbol → Lexeme
mark_lexeme (Some symbol) short = lexeme (t.Symbol symbol) 2
mark_lexeme None short = short_lexeme short

-- the mark of two bytes at the front, if there is one
abbrev pub long_mark : Text → Option Symbol
long_mark z = if nat_lt (length z) 2 then None else mark (take 2 z)

-- a mark of two bytes, or else of one
unfoldable pub mark_at : Text → Lexeme
mark_at z = mark_lexeme (long_mark z) (mark (take 1 z))

-- the token at the front, where no blank stands; 34 is `"`
unfoldable pub token_at : Text → Lexeme
token_at z =
    if is_letter (slice_index z 0) then word_at z
    else (if is_digit (slice_index z 0) then number_at z
    else (if slice_index z 0 == 34 then text_at z
    else mark_at z))

-- a token at a column
abbrev pub spot : ℕ → Token → Spot
spot column token = record { column = column; token = token }

-- whether a token is none that a rule has
abbrev pub is_malformed : Token → Bool
is_malformed t.Malformed = true
is_malformed other = false

-- The tokens from a column on; the number counts the bytes that are left of the token before. Behind a malformed token
-- none is looked for: no body has it.
abbrev pub lex_from : ℕ → ℕ → Text → List Spot
lex_from column left [] = []
lex_from column (suc left) (b ∷ z) = lex_from (column + 1) left z
lex_from column zero (b ∷ z) =
    if is_blank b then lex_from (column + 1) zero z
    else spot column (token_at (b ∷ z)).token
    ∷ (if is_malformed (token_at (b ∷ z)).token then [] else lex_from (column + 1) ((token_at (b ∷ z)).len - 1) z)

-- the tokens of a text, with their columns, up to the first malformed one
unfoldable pub lex : Text → List Spot
lex z = lex_from 1 0 z

-- a token that some text spells
abbrev pub Spelled : Spot → Type 0
Spelled s = (z : Text) × (lex z ≡ spot 1 s.token ∷ [])
