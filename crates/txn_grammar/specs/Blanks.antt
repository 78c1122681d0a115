-- Blanks at the end of a text mean nothing: its tokens, its body and the token at which it stops being one are those that
-- it has without them. The statements of the law `blanks_at_the_end`.
use Rattle.std.specs.Prelude.{◌≡◌, ◌+◌, ◌≤◌, ◌<◌, ◌++◌, length}
use Rattle.std.specs.List.{AllPass}
use Rattle.txn_grammar.specs.Characters.{Text, is_blank}
use Rattle.txn_grammar.specs.Lexer.{lex}
use Rattle.txn_grammar.specs.Parsed.{parsed, syntax_column}

-- nothing but blanks
abbrev pub AreBlank : Text → Type 0
AreBlank w = AllPass is_blank w

-- the tokens with their columns
abbrev pub KeepTokens : Type 0
KeepTokens = (z w : Text) → AreBlank w → lex (z ++ w) ≡ lex z

-- a law: blanks at the end of a text leave its body as it is
abbrev pub KeepBody : Type 0
KeepBody = (z w : Text) → AreBlank w → parsed (z ++ w) ≡ parsed z

-- a text that stops being a body at a token does so with blanks too
abbrev pub KeepColumn : Type 0
KeepColumn = (z w : Text) → AreBlank w → syntax_column z ≤ length z → syntax_column (z ++ w) ≡ syntax_column z

-- one that only ends too early does so behind them
abbrev pub EndBehind : Type 0
EndBehind = (z w : Text) → AreBlank w → length z < syntax_column z → syntax_column (z ++ w) ≡ length (z ++ w) + 1
