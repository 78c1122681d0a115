-- Reserved words and marks: how each is written, and what a rule asks of it.
use Rattle.std.specs.Prelude.{true, false, List, [], ◌∷◌, map, filter, codes, Some, None, is_some}
use Rattle.plain_data.specs.Texts.{Bytes}
use Rattle.rdt_types.specs.declared.address.Kind.TheVariants as kind
use Rattle.txn_trees.specs.declared.word.Operator.TheVariants as operator
use Rattle.txn_trees.specs.declared.word.Relation.TheVariants as relation
use Rattle.txn_grammar.specs.declared.rank.Rank.TheVariants as rank
use Rattle.txn_grammar.specs.declared.symbol.Symbol.{Symbol}
use Rattle.txn_grammar.specs.declared.symbol.Symbol.TheVariants as s
use Rattle.txn_grammar.specs.declared.token.Token.{Token}
use Rattle.txn_grammar.specs.declared.token.Token.TheVariants as t
use Rattle.txn_grammar.specs.Spellings.{spelling}
use Rattle.txn_grammar.specs.Lexer.{lex}
use Rattle.txn_grammar.specs.Tokens.{truth_of, operator_of, relation_of, kind_of, write_named, read_named}
use Rattle.language_lines.specs.Tables.{Holds}

-- the reserved words
abbrev pub reserved : List (Bytes × Symbol)
reserved =
    (codes "let", s.Let)
    ∷ (codes "emit", s.Emit)
    ∷ (codes "fail", s.Fail)
    ∷ (codes "if", s.If)
    ∷ (codes "else", s.Else)
    ∷ (codes "for", s.For)
    ∷ (codes "in", s.In)
    ∷ (codes "and", s.And)
    ∷ (codes "or", s.Or)
    ∷ (codes "not", s.Not)
    ∷ (codes "true", s.True)
    ∷ (codes "false", s.False)
    ∷ (codes "len", s.Len)
    ∷ (codes "str", s.Str)
    ∷ (codes "bool", s.Bool)
    ∷ (codes "counter", s.Counter)
    ∷ (codes "text", s.Text)
    ∷ (codes "set", s.Set)
    ∷ (codes "hash", s.Hash)
    ∷ (codes "list", s.List)
    ∷ (codes "peak", s.Peak)
    ∷ []

-- the marks
abbrev pub marks : List (Bytes × Symbol)
marks =
    (codes "==", s.Equal)
    ∷ (codes "!=", s.Unequal)
    ∷ (codes "<=", s.AtMost)
    ∷ (codes ">=", s.AtLeast)
    ∷ (codes "<", s.Less)
    ∷ (codes ">", s.Greater)
    ∷ (codes "=", s.Assign)
    ∷ (codes "+", s.Plus)
    ∷ (codes "-", s.Minus)
    ∷ (codes "*", s.Times)
    ∷ (codes "(", s.OpenParen)
    ∷ (codes ")", s.CloseParen)
    ∷ (codes "[", s.OpenBracket)
    ∷ (codes "]", s.CloseBracket)
    ∷ (codes "{", s.OpenBrace)
    ∷ (codes "}", s.CloseBrace)
    ∷ (codes ",", s.Comma)
    ∷ (codes ";", s.Semicolon)
    ∷ (codes ".", s.Dot)
    ∷ []

-- the tokens of a text, without their columns
abbrev pub tokens_of : Bytes → List Token
tokens_of text = map (λ spot. spot.token) (lex text)

-- a text that is one reserved word or mark
abbrev pub alone : Bytes × Symbol → Bytes × List Token
alone (text, symbol) = (text, t.Symbol symbol ∷ [])

-- a symbol, and how it is spelled
abbrev pub turned : Bytes × Symbol → Symbol × Bytes
turned (text, symbol) = (symbol, text)

-- each reserved word is its symbol, and so is each mark
abbrev pub WordsAreReserved : Type 0
WordsAreReserved = Holds tokens_of (map alone reserved)

-- each mark, likewise
abbrev pub MarksAreRead : Type 0
MarksAreRead = Holds tokens_of (map alone marks)

-- and each symbol is spelled so
abbrev pub WordsAreSpelled : Type 0
WordsAreSpelled = Holds spelling (map turned reserved)

-- each mark, likewise
abbrev pub MarksAreSpelled : Type 0
MarksAreSpelled = Holds spelling (map turned marks)

-- the words of operations, the names of types and what only looks like a word of the language are names
abbrev pub names : List Bytes
names =
    codes "put" ∷ codes "add" ∷ codes "remove" ∷ codes "clear" ∷ codes "push" ∷ codes "raise"
    ∷ codes "get" ∷ codes "has" ∷ codes "all" ∷ codes "fields" ∷ codes "at" ∷ codes "over"
    ∷ codes "int" ∷ codes "texts" ∷ codes "lets" ∷ codes "in_" ∷ codes "ok" ∷ []

-- none of them is reserved
abbrev pub OthersAreNames : Type 0
OthersAreNames = Holds tokens_of (map (λ z. (z, t.Name z ∷ [])) names)

-- what begins no token
abbrev pub strays : List Bytes
strays =
    codes "A" ∷ codes "_a" ∷ codes "!" ∷ codes "&" ∷ codes "'" ∷ codes "/" ∷ codes "%" ∷ codes ":" ∷ codes "#" ∷ codes "@" ∷ codes "|" ∷ []

-- nor is any of these a mark
abbrev pub OthersAreNone : Type 0
OthersAreNone = Holds tokens_of (map (λ z. (z, t.Malformed ∷ [])) strays)

-- ---- what a rule asks of a symbol

-- the word of a kind
abbrev pub KindsAreNamed : Type 0
KindsAreNamed =
    Holds kind_of
    ((s.Bool, Some kind.Bool)
    ∷ (s.Counter, Some kind.Counter)
    ∷ (s.Text, Some kind.Text)
    ∷ (s.Set, Some kind.Set)
    ∷ (s.Hash, Some kind.Hash)
    ∷ (s.List, Some kind.List)
    ∷ (s.Peak, Some kind.Peak)
    ∷ (s.Len, None)
    ∷ [])

-- `true` and `false`
abbrev pub TruthsAreNamed : Type 0
TruthsAreNamed = Holds truth_of ((s.True, Some true) ∷ (s.False, Some false) ∷ [])

-- which of `or`, `and`, `+`, `-` and `*` join the operands of one chain, from the loosest rank to the tightest
abbrev pub OperatorsHaveRanks : Type 0
OperatorsHaveRanks =
    Holds (λ r. map (operator_of r) (s.Or ∷ s.And ∷ s.Plus ∷ s.Minus ∷ s.Times ∷ []))
    ((rank.Disjunction, Some operator.Or ∷ None ∷ None ∷ None ∷ None ∷ [])
    ∷ (rank.Conjunction, None ∷ Some operator.And ∷ None ∷ None ∷ None ∷ [])
    ∷ (rank.Sum, None ∷ None ∷ Some operator.Plus ∷ Some operator.Minus ∷ None ∷ [])
    ∷ (rank.Product, None ∷ None ∷ None ∷ None ∷ Some operator.Times ∷ [])
    ∷ [])

-- the six comparisons; `=` is none
abbrev pub RelationsAreNamed : Type 0
RelationsAreNamed =
    Holds relation_of
    ((s.Equal, Some relation.Equal)
    ∷ (s.Unequal, Some relation.Unequal)
    ∷ (s.Less, Some relation.Less)
    ∷ (s.AtMost, Some relation.AtMost)
    ∷ (s.Greater, Some relation.Greater)
    ∷ (s.AtLeast, Some relation.AtLeast)
    ∷ (s.Assign, None)
    ∷ [])

-- ---- the operations that a kind has

-- the words that write
abbrev pub KindsHaveWrites : Type 0
KindsHaveWrites =
    Holds (λ k. filter (λ z. is_some (write_named k z)) names)
    ((kind.Bool, codes "put" ∷ [])
    ∷ (kind.Counter, codes "put" ∷ codes "add" ∷ [])
    ∷ (kind.Text, codes "put" ∷ [])
    ∷ (kind.Set, codes "add" ∷ codes "remove" ∷ codes "clear" ∷ [])
    ∷ (kind.Hash, codes "put" ∷ codes "remove" ∷ codes "clear" ∷ [])
    ∷ (kind.List, codes "remove" ∷ codes "clear" ∷ codes "push" ∷ [])
    ∷ (kind.Peak, codes "raise" ∷ [])
    ∷ [])

-- and those that read
abbrev pub KindsHaveReads : Type 0
KindsHaveReads =
    Holds (λ k. filter (λ z. is_some (read_named k z)) names)
    ((kind.Bool, codes "get" ∷ [])
    ∷ (kind.Counter, codes "get" ∷ [])
    ∷ (kind.Text, codes "get" ∷ [])
    ∷ (kind.Set, codes "has" ∷ codes "all" ∷ [])
    ∷ (kind.Hash, codes "get" ∷ codes "has" ∷ codes "fields" ∷ [])
    ∷ (kind.List, codes "all" ∷ codes "at" ∷ [])
    ∷ (kind.Peak, codes "get" ∷ codes "over" ∷ [])
    ∷ [])
