-- What a token begins: the choices of the reader. The law `parsed_is_body` ties all that is read by them to the grammar.
use Rattle.std.specs.Prelude.{Option, Some, None, unwrap_or}
use Rattle.predictive_parsing.specs.Reading.{Reader, guided}
use Rattle.txn_grammar.specs.declared.form.Leaf.{Leaf}
use Rattle.txn_grammar.specs.declared.form.Leaf.TheVariants as leaf
use Rattle.txn_grammar.specs.declared.form.Opener.{Opener}
use Rattle.txn_grammar.specs.declared.form.Opener.TheVariants as opener
use Rattle.txn_grammar.specs.declared.form.Simple.{Simple}
use Rattle.txn_grammar.specs.declared.form.Simple.TheVariants as simple
use Rattle.txn_grammar.specs.declared.form.Nesting.{Nesting}
use Rattle.txn_grammar.specs.declared.form.Nesting.TheVariants as nesting
use Rattle.txn_grammar.specs.declared.symbol.Symbol.{Symbol}
use Rattle.txn_grammar.specs.declared.symbol.Symbol.TheVariants as s
use Rattle.txn_grammar.specs.declared.token.Token.{Token}
use Rattle.txn_grammar.specs.declared.token.Token.TheVariants as t
use Rattle.txn_grammar.specs.declared.token.Spot.{Spot}
use Rattle.txn_grammar.specs.Tokens.{of_symbol}

-- ---- a choice by the item ahead

-- what f makes of the item ahead
abbrev pub of_next : {I B : Type 0} → (I → Option B) → Option I → Option B
of_next f None = None
of_next f (Some item) = f item

-- the branch that the item ahead begins, or else this one, which refuses it
abbrev pub chosen : {I A B : Type 0} → (I → Option B) → B → (B → Reader I A) → Reader I A
chosen f other branches = guided (λ ahead. unwrap_or (of_next f ahead) other) branches

-- what f makes of the token at a spot
abbrev pub at_spot : {B : Type 0} → (Token → Option B) → Spot → Option B
at_spot f spot = f spot.token

-- ---- expressions

-- the leaf that a token is
abbrev pub leaf_of : Token → Option Leaf
leaf_of (t.Number value) = Some leaf.Number
leaf_of (t.Text bytes) = Some leaf.Text
leaf_of (t.Name bytes) = Some leaf.Name
leaf_of (t.Symbol s.True) = Some leaf.Truth
leaf_of (t.Symbol s.False) = Some leaf.Truth
leaf_of _ = None

-- the expression that a symbol opens
abbrev pub opener_of : Symbol → Option Opener
opener_of s.Minus = Some opener.Negative
opener_of s.OpenParen = Some opener.Group
opener_of s.Len = Some opener.Len
opener_of s.Str = Some opener.Str
opener_of s.OpenBracket = Some opener.Texts
opener_of s.Bool = Some opener.Read
opener_of s.Counter = Some opener.Read
opener_of s.Text = Some opener.Read
opener_of s.Set = Some opener.Read
opener_of s.Hash = Some opener.Read
opener_of s.List = Some opener.Read
opener_of s.Peak = Some opener.Read
opener_of _ = None

-- ---- statements

-- the simple statement that a symbol begins
abbrev pub simple_of : Symbol → Option Simple
simple_of s.Let = Some simple.Let
simple_of s.Emit = Some simple.Emit
simple_of s.Fail = Some simple.Fail
simple_of _ = None

-- the nesting statement that a symbol begins
abbrev pub nesting_of : Symbol → Option Nesting
nesting_of s.If = Some nesting.If
nesting_of s.For = Some nesting.For
nesting_of s.Bool = Some nesting.Write
nesting_of s.Counter = Some nesting.Write
nesting_of s.Text = Some nesting.Write
nesting_of s.Set = Some nesting.Write
nesting_of s.Hash = Some nesting.Write
nesting_of s.List = Some nesting.Write
nesting_of s.Peak = Some nesting.Write
nesting_of _ = None

-- each of them by a token
abbrev pub opener_at : Spot → Option Opener
opener_at = at_spot (of_symbol opener_of)

abbrev pub leaf_at : Spot → Option Leaf
leaf_at = at_spot leaf_of

abbrev pub simple_at : Spot → Option Simple
simple_at = at_spot (of_symbol simple_of)

abbrev pub nesting_at : Spot → Option Nesting
nesting_at = at_spot (of_symbol nesting_of)
