-- The tree of a text: the body that the grammar gives, where the rules of typing accept it.
use Rattle.std.specs.Prelude.{◌≡◌, ◌↔◌, Option, Some, None, Ok, Err}
use Rattle.txn_trees.specs.declared.statement.Body.{Body}
use Rattle.txn_grammar.specs.Characters.{Text}
use Rattle.txn_grammar.specs.Lexer.{lex}
use Rattle.txn_grammar.specs.Grammar.{IsBody}
use Rattle.txn_grammar.specs.Parsed.{parsed}
use Rattle.txn_lang.specs.Types.{Names}
use Rattle.txn_lang.specs.Typing.{Judged, judge, IsTyped}

-- a body that was judged
abbrev pub if_accepted : Body → Judged Names → Option Body
if_accepted body (Ok names) = Some body
if_accepted body (Err column) = None

-- a body that was read, if there is one
abbrev pub if_typed : Option Body → Option Body
if_typed None = None
if_typed (Some body) = if_accepted body (judge body)

-- the one body that a text is and that may run, or none
unfoldable pub tree : Text → Option Body
tree z = if_typed (parsed z)

-- ---- a law

-- A text has a tree exactly where the grammar derives it from the text's tokens, and it is well typed.
abbrev pub TreesAreTypedBodies : Type 0
TreesAreTypedBodies = (z : Text) (b : Body) → (tree z ≡ Some b) ↔ (IsBody (lex z) b × IsTyped b)
