-- How reserved words and marks are spelled.
use Rattle.std.specs.Prelude.{◌≡◌, Bool, List, [], ◌++◌, unwrap_or, codes, find, map, Option, Some, None, refl}
use Rattle.std.specs.Option.{option_map}
use Rattle.std.specs.Str.{bytes_eq}
use denote.Enum.Bare.{sameb}
use Rattle.txn_grammar.specs.declared.symbol.Symbol.{Symbol}
use Rattle.txn_grammar.specs.contracts.symbol.Symbol.{the_type}
use Rattle.txn_grammar.specs.declared.symbol.Symbol.TheVariants as s
use Rattle.txn_grammar.specs.declared.symbol.TheConstants.{WORDS, MARKS}
use Rattle.txn_grammar.specs.Characters.{Text}

-- the rows of the two tables of symbols
abbrev pub words : List (Text × Symbol)
words = map (λ row. (row.0.now, row.1)) WORDS

-- the table of marks, each with its spelling
abbrev pub marks : List (Text × Symbol)
marks = map (λ row. (row.0.now, row.1)) MARKS

-- the symbol of the row that has this spelling
abbrev pub spelled_in : List (Text × Symbol) → Text → Option Symbol
spelled_in rows text = option_map (λ row. row.1) (find (λ row. bytes_eq row.0 text) rows)

-- the reserved word that this is, if it is one
unfoldable pub reserved_word : Text → Option Symbol
reserved_word text = spelled_in words text

-- the mark that this is, if it is one
unfoldable pub mark : Text → Option Symbol
mark text = spelled_in marks text

-- `==` on symbols
unfoldable pub same_symbol : Symbol → Symbol → Bool
same_symbol = sameb the_type

-- how a symbol is spelled
unfoldable pub spelling : Symbol → Text
spelling symbol = unwrap_or (option_map (λ row. row.0) (find (λ row. same_symbol row.1 symbol) (words ++ marks))) []

-- a word that is kept for a kind to come is reserved
peak_is_reserved : reserved_word (codes "peak") ≡ Some s.Peak
unfolding reserved_word
peak_is_reserved = refl

-- an operation's word is not
put_is_no_reserved_word : reserved_word (codes "put") ≡ None
unfolding reserved_word
put_is_no_reserved_word = refl

brace : spelling s.OpenBrace ≡ codes "{"
unfolding spelling same_symbol
brace = refl
