-- The canonical text of a body: its tokens, with parentheses exactly where the grammar needs them, and their spaces.
use Rattle.std.specs.Prelude.{Bool, true, false, if◌then◌else◌, List, [], ◌∷◌, ◌++◌, map, Option, Some, None, codes}
use Rattle.std.specs.List.{flat_map}
use Rattle.plain_data.specs.Texts.{Bytes}
use Rattle.rdt_types.specs.declared.address.Kind.{Kind}
use Rattle.rdt_types.specs.declared.address.Kind.TheVariants as kind
use Rattle.txn_trees.specs.declared.expression.Expr.{Expr, fold-Expr}
use Rattle.txn_trees.specs.declared.expression.ExprNode.{ExprNode-F}
use Rattle.txn_trees.specs.declared.expression.ExprNode.TheOpen as node
use Rattle.txn_trees.specs.declared.expression.Operand.{Operand, out-Operand}
use Rattle.txn_trees.specs.declared.statement.Stmt.{Stmt, fold-Stmt}
use Rattle.txn_trees.specs.declared.statement.StmtNode.{StmtNode-F}
use Rattle.txn_trees.specs.declared.statement.StmtNode.TheOpen as stmt
use Rattle.txn_trees.specs.declared.statement.Body.{Body}
use Rattle.txn_trees.specs.declared.word.Operator.{Operator}
use Rattle.txn_trees.specs.declared.word.Operator.TheVariants as operator
use Rattle.txn_trees.specs.declared.word.Relation.{Relation}
use Rattle.txn_trees.specs.declared.word.Relation.TheVariants as relation
use Rattle.txn_trees.specs.declared.word.WriteWord.{WriteWord}
use Rattle.txn_trees.specs.declared.word.WriteWord.TheVariants as write
use Rattle.txn_trees.specs.declared.word.ReadWord.{ReadWord}
use Rattle.txn_trees.specs.declared.word.ReadWord.TheVariants as read
use Rattle.txn_grammar.specs.declared.symbol.Symbol.{Symbol}
use Rattle.txn_grammar.specs.declared.symbol.Symbol.TheVariants as s
use Rattle.txn_grammar.specs.declared.token.Token.TheVariants as t
use Rattle.txn_print.specs.declared.place.Place.{Place}
use Rattle.txn_print.specs.declared.place.Place.TheVariants as place
use Rattle.txn_print.specs.Places.{needs_parens, chain_place, operand_place}
use Rattle.txn_print.specs.Pieces.{Piece, spaced, opening, closing, joining, word, text}

-- ---- words

-- the word of a truth value
abbrev pub truth : Bool → Symbol
truth true = s.True
truth false = s.False

-- the word or mark of an operator
abbrev pub sign : Operator → Symbol
sign operator.Or = s.Or
sign operator.And = s.And
sign operator.Plus = s.Plus
sign operator.Minus = s.Minus
sign operator.Times = s.Times

-- the mark of a comparison
abbrev pub comparison : Relation → Symbol
comparison relation.Equal = s.Equal
comparison relation.Unequal = s.Unequal
comparison relation.Less = s.Less
comparison relation.AtMost = s.AtMost
comparison relation.Greater = s.Greater
comparison relation.AtLeast = s.AtLeast

-- the word of a kind
abbrev pub kind_symbol : Kind → Symbol
kind_symbol kind.Bool = s.Bool
kind_symbol kind.Counter = s.Counter
kind_symbol kind.Text = s.Text
kind_symbol kind.Set = s.Set
kind_symbol kind.Hash = s.Hash
kind_symbol kind.List = s.List
kind_symbol kind.Peak = s.Peak

-- the word of a write
abbrev pub write_name : WriteWord → Bytes
write_name write.Put = codes "put"
write_name write.Add = codes "add"
write_name write.Remove = codes "remove"
write_name write.Clear = codes "clear"
write_name write.Push = codes "push"
write_name write.Raise = codes "raise"

-- the word of a read
abbrev pub read_name : ReadWord → Bytes
read_name read.Get = codes "get"
read_name read.Has = codes "has"
read_name read.All = codes "all"
read_name read.Fields = codes "fields"
read_name read.At = codes "at"
read_name read.Over = codes "over"

-- ---- parts of several forms

-- in parentheses
abbrev pub grouped : List Piece → List Piece
grouped inner = opening s.OpenParen ∷ (inner ++ closing s.CloseParen ∷ [])

-- in parentheses behind a word
abbrev pub given : List Piece → List Piece
given inner = joining s.OpenParen ∷ (inner ++ closing s.CloseParen ∷ [])

-- a comma in front
abbrev pub after_comma : List Piece → List Piece
after_comma pieces = closing s.Comma ∷ pieces

-- with a comma between each two
abbrev pub separated : List (List Piece) → List Piece
separated [] = []
separated (first ∷ rest) = first ++ flat_map after_comma rest

-- a kind and a key, up to the dot
abbrev pub target : Kind → List Piece → List Piece
target kind key = word (kind_symbol kind) ∷ (given key ++ joining s.Dot ∷ [])

-- what is asked of it or done to it
abbrev pub request : Bytes → List (List Piece) → List Piece
request name arguments = spaced (t.Name name) ∷ given (separated arguments)

-- an operation
abbrev pub operation : Kind → List Piece → Bytes → List (List Piece) → List Piece
operation kind key name arguments = target kind key ++ request name arguments

-- ---- expressions

-- the tokens of an expression, and its own rule in the grammar
pub record Shown : Type 0 where
  pub rank : Place
  pub pieces : List Piece

-- pieces that may stand in this place without parentheses
abbrev pub shown_as : Place → List Piece → Shown
shown_as rank pieces = record { rank = rank; pieces = pieces }

-- at a place: in parentheses exactly where its rule isn't reached from there without them
abbrev pub at : Place → Shown → List Piece
at here shown = if needs_parens shown.rank here then grouped shown.pieces else shown.pieces

-- the whole of a pair of parentheses, of an argument or of an element
abbrev pub whole : Shown → List Piece
whole = at place.Disjunction

-- an operator and the operand behind it
abbrev pub further : Operator × Shown → List Piece
further operand = word (sign operand.0) ∷ at (operand_place operand.0) operand.1

-- the rule of a chain and that of its first operand, by its first operator
abbrev pub ranks : List (Operator × Shown) → Place × Place
ranks [] = (place.Unary, place.Unary)
ranks (next ∷ rest) = (chain_place next.0, operand_place next.0)

-- operands with operators between them
abbrev pub chain : Shown → List (Operator × Shown) → Shown
chain first rest = shown_as (ranks rest).0 (at (ranks rest).1 first ++ flat_map further rest)

-- each expression from its shown parts
abbrev pub show_node : ExprNode-F Shown Shown (Operator × Shown) → Shown
show_node (node.Number value) = shown_as place.Unary (spaced (t.Number value) ∷ [])
show_node (node.Text bytes) = shown_as place.Unary (spaced (t.Text bytes) ∷ [])
show_node (node.Bool value) = shown_as place.Unary (word (truth value) ∷ [])
show_node (node.Name name) = shown_as place.Unary (spaced (t.Name name) ∷ [])
show_node (node.Texts elements) =
    shown_as place.Unary (opening s.OpenBracket ∷ (separated (map whole elements) ++ closing s.CloseBracket ∷ []))
show_node (node.Len argument) = shown_as place.Unary (word s.Len ∷ given (whole argument))
show_node (node.Str argument) = shown_as place.Unary (word s.Str ∷ given (whole argument))
show_node (node.Negative value) = shown_as place.Unary (opening s.Minus ∷ at place.Unary value)
show_node (node.Not value) = shown_as place.Negation (word s.Not ∷ at place.Negation value)
show_node (node.Compare left relation right) =
    shown_as place.Comparison (at place.Sum left ++ word (comparison relation) ∷ at place.Sum right)
show_node (node.Chain first rest) = chain first rest
show_node (node.Read kind key word arguments) = shown_as place.Unary (operation kind (whole key) (read_name word) (map whole arguments))

-- an expression, shown
unfoldable pub shown : Expr → Shown
shown = fold-Expr Shown Shown (Operator × Shown) show_node (λ e. e.node) (λ o. (o.operator, o.value))

-- what is shown of an operand
abbrev pub shown_operand : Operand → Operator × Shown
shown_operand o = ((out-Operand o).operator, shown (out-Operand o).value)

-- a chain of operators, shown
abbrev pub shown_chain : Expr → List Operand → Shown
shown_chain first rest = chain (shown first) (map shown_operand rest)

-- an expression on its own
abbrev pub expression : Expr → List Piece
expression e = whole (shown e)

-- ---- statements

-- up to the semicolon
abbrev pub ended : List Piece → List Piece
ended pieces = pieces ++ closing s.Semicolon ∷ []

-- statements in braces
abbrev pub block : List (List Piece) → List Piece
block stmts = word s.OpenBrace ∷ (flat_map (λ pieces. pieces) stmts ++ word s.CloseBrace ∷ [])

-- `else` and its block, where there is one
abbrev pub otherwise : Option (List (List Piece)) → List Piece
otherwise None = []
otherwise (Some stmts) = word s.Else ∷ block stmts

-- each statement from its shown parts
abbrev pub show_stmt : StmtNode-F (List Piece) (List Piece) → List Piece
show_stmt (stmt.Let name value) = word s.Let ∷ spaced (t.Name name) ∷ word s.Assign ∷ ended (expression value)
show_stmt (stmt.Emit value) = word s.Emit ∷ ended (expression value)
show_stmt (stmt.Fail value) = word s.Fail ∷ ended (expression value)
show_stmt (stmt.If condition holds other) = word s.If ∷ (expression condition ++ (block holds ++ otherwise other))
show_stmt (stmt.For name texts each) = word s.For ∷ spaced (t.Name name) ∷ word s.In ∷ (expression texts ++ block each)
show_stmt (stmt.Write kind key word arguments) = ended (operation kind (expression key) (write_name word) (map expression arguments))

-- a statement, shown
unfoldable pub shown_stmt : Stmt → List Piece
shown_stmt = fold-Stmt (List Piece) (List Piece) show_stmt (λ x. x.node)

-- ---- bodies

-- a body, shown
abbrev pub shown_body : Body → List Piece
shown_body body = flat_map shown_stmt body.stmts

-- the canonical text of a body
abbrev pub canonical : Body → Bytes
canonical body = text (shown_body body)

-- ---- worked lines
