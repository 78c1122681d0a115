-- What may follow an expression of each rank, and what expressions begin with.
use Rattle.std.proofs.Common.{◌≡◌, ℕ, zero, suc, Bool, true, false, ◌||◌, ◌⊎◌, inl, inr, Option, Some, None, refl}
use Rattle.predictive_parsing.specs.Reading.{is_made, begins}
use Rattle.predictive_parsing.specs.Fits.{any, unless}
use Rattle.txn_grammar.specs.declared.rank.Rank.TheVariants as rank
use Rattle.txn_grammar.specs.declared.symbol.Symbol.{Symbol}
use Rattle.txn_grammar.specs.declared.symbol.Symbol.TheVariants as s
use Rattle.txn_grammar.specs.declared.token.Token.{Token}
use Rattle.txn_grammar.specs.declared.token.Token.TheVariants as t
use Rattle.txn_grammar.specs.declared.token.Spot.{Spot}
use Rattle.txn_grammar.specs.Spellings.{same_symbol}
use Rattle.txn_grammar.specs.Lexer.{spot}
use Rattle.txn_grammar.specs.Tokens.{operator_of, relation_of}
use Rattle.txn_grammar.specs.code.Forms.{leaf_at, opener_at}
use Rattle.txn_grammar.specs.code.Reader.{sees, begins_operator, begins_relation, begins_simple, begins_nesting, begins_statement}

-- ---- what follows

-- anything but an operator of products
abbrev pub product_end : Option Spot → Bool
product_end = unless (begins_operator rank.Product) any

-- anything but an operator of sums, too
abbrev pub sum_end : Option Spot → Bool
sum_end = unless (begins_operator rank.Sum) product_end

-- anything but a comparison's symbol, too
abbrev pub comparison_end : Option Spot → Bool
comparison_end = unless begins_relation sum_end

-- anything but `and`, too
abbrev pub conjunction_end : Option Spot → Bool
conjunction_end = unless (begins_operator rank.Conjunction) comparison_end

-- anything but `or`, too
abbrev pub expression_end : Option Spot → Bool
expression_end = unless (begins_operator rank.Disjunction) conjunction_end

-- an operator may follow what binds tighter
pub plus_ends_product : (column : ℕ) (symbol : Symbol) → is_made (operator_of rank.Sum symbol) ≡ true
    → product_end (Some (spot column (t.Symbol symbol))) ≡ true
plus_ends_product column s.Plus e = refl
plus_ends_product column s.Minus e = refl
plus_ends_product column _ e = absurd (cc)

-- a comparison may follow a sum: none of its symbols is an operator of sums or products
pub relation_ends_sum : (column : ℕ) (symbol : Symbol) → is_made (relation_of symbol) ≡ true → sum_end (Some (spot column (t.Symbol symbol))) ≡ true
relation_ends_sum column s.Equal e = refl
relation_ends_sum column s.Unequal e = refl
relation_ends_sum column s.Less e = refl
relation_ends_sum column s.AtMost e = refl
relation_ends_sum column s.Greater e = refl
relation_ends_sum column s.AtLeast e = refl
relation_ends_sum column _ e = absurd (cc)

-- `and` may follow a comparison: it is neither a comparison's symbol nor an operator of sums or products
pub and_ends_comparison : (column : ℕ) (symbol : Symbol) → is_made (operator_of rank.Conjunction symbol) ≡ true
    → comparison_end (Some (spot column (t.Symbol symbol))) ≡ true
and_ends_comparison column s.And e = refl
and_ends_comparison column _ e = absurd (cc)

-- `or` may follow a conjunction: it is no symbol of anything tighter
pub or_ends_conjunction : (column : ℕ) (symbol : Symbol) → is_made (operator_of rank.Disjunction symbol) ≡ true
    → conjunction_end (Some (spot column (t.Symbol symbol))) ≡ true
or_ends_conjunction column s.Or e = refl
or_ends_conjunction column _ e = absurd (cc)

-- ---- what expressions begin with

-- the token ahead is a leaf
abbrev pub begins_leaf : Option Spot → Bool
begins_leaf = begins leaf_at

-- the token ahead opens a level
abbrev pub begins_opened : Option Spot → Bool
begins_opened = begins opener_at

-- the token ahead is either of these
abbrev pub begins_unary : Option Spot → Bool
begins_unary h = begins_opened h || begins_leaf h

-- the token ahead is `not`, or begins a unary
abbrev pub begins_expression : Option Spot → Bool
begins_expression h = sees s.Not h || begins_unary h

-- what holds of each token that begins so
pub by_token : (F G : Option Spot → Bool) (b : Bool) → F None ≡ false
    → ((column : ℕ) (token : Token) → F (Some (spot column token)) ≡ true → G (Some (spot column token)) ≡ b) → (h : Option Spot)
    → F h ≡ true → G h ≡ b
by_token F G b none holds None e = absurd (let k = none in cc)
by_token F G b none holds (Some item) e = holds item.column item.token e

-- token by token: numbers, texts, names, `true` and `false` open nothing
leaf_no_opener : (column : ℕ) (token : Token) → begins_leaf (Some (spot column token)) ≡ true → begins_opened (Some (spot column token)) ≡ false
leaf_no_opener column (t.Number value) e = refl
leaf_no_opener column (t.Text bytes) e = refl
leaf_no_opener column (t.Name bytes) e = refl
leaf_no_opener column (t.Symbol s.True) e = refl
leaf_no_opener column (t.Symbol s.False) e = refl
leaf_no_opener column _ e = absurd (cc)

-- what a leaf is opens nothing
pub leaf_opens_nothing : (h : Option Spot) → begins_leaf h ≡ true → begins_opened h ≡ false
leaf_opens_nothing = by_token begins_leaf begins_opened false refl leaf_no_opener

-- of all symbols `not` alone is `not`, and it begins no operand
unary_token : (column : ℕ) (token : Token) → begins_unary (Some (spot column token)) ≡ true → sees s.Not (Some (spot column token)) ≡ false
unfolding same_symbol
unary_token column (t.Symbol s.Not) e = absurd (cc)
unary_token column _ e = refl

-- no operand begins with `not`
pub unary_no_not : (h : Option Spot) → begins_unary h ≡ true → sees s.Not h ≡ false
unary_no_not = by_token begins_unary (sees s.Not) false refl unary_token

-- of all symbols the closing bracket alone is one, and it begins no expression
expression_token : (column : ℕ) (token : Token) → begins_expression (Some (spot column token)) ≡ true → sees s.CloseBracket (Some (spot column token)) ≡ false
unfolding same_symbol
expression_token column (t.Symbol s.CloseBracket) e = absurd (cc)
expression_token column _ e = refl

-- no expression begins with a closing bracket
pub expression_no_close : (h : Option Spot) → begins_expression h ≡ true → sees s.CloseBracket h ≡ false
expression_no_close = by_token begins_expression (sees s.CloseBracket) false refl expression_token

-- `let`, `emit` and `fail` alone begin simple statements, and none of them opens a level as one
nesting_token : (column : ℕ) (token : Token) → begins_nesting (Some (spot column token)) ≡ true → begins_simple (Some (spot column token)) ≡ false
nesting_token column (t.Symbol s.Let) e = absurd (cc)
nesting_token column (t.Symbol s.Emit) e = absurd (cc)
nesting_token column (t.Symbol s.Fail) e = absurd (cc)
nesting_token column _ e = refl

-- what opens a level as a statement is no simple one
pub nesting_not_simple : (h : Option Spot) → begins_nesting h ≡ true → begins_simple h ≡ false
nesting_not_simple = by_token begins_nesting begins_simple false refl nesting_token

-- ---- statements

-- an `else` belongs to the `if` before it
abbrev pub statement_end : Option Spot → Bool
statement_end = unless (sees s.Else) any

-- `else` begins no simple statement, and anything else may follow a statement
simple_token : (column : ℕ) (token : Token) → begins_simple (Some (spot column token)) ≡ true → statement_end (Some (spot column token)) ≡ true
unfolding same_symbol
simple_token column (t.Symbol s.Else) e = absurd (cc)
simple_token column _ e = refl

-- `else` opens no level as a statement, and anything else may follow a statement
nesting_end : (column : ℕ) (token : Token) → begins_nesting (Some (spot column token)) ≡ true → statement_end (Some (spot column token)) ≡ true
unfolding same_symbol
nesting_end column (t.Symbol s.Else) e = absurd (cc)
nesting_end column _ e = refl

-- by the first of the two
either_true : (a b : Bool) → a || b ≡ true → (a ≡ true) ⊎ (b ≡ true)
either_true true b e = inl refl
either_true false b e = inr e

-- one statement may follow another
pub statement_goes : (n : ℕ) (h : Option Spot) → begins_statement n h ≡ true → statement_end h ≡ true
unfolding begins_statement
statement_goes zero h e = by_token begins_simple statement_end true refl simple_token h e
statement_goes (suc n) h e = elim (either_true (begins_simple h) (begins_nesting h) e) [
  | inl k ↦ by_token begins_simple statement_end true refl simple_token h k
  | inr k ↦ by_token begins_nesting statement_end true refl nesting_end h k
]

-- no statement begins at the end, or with a closing brace
pub statement_none : (n : ℕ) → begins_statement n None ≡ false
unfolding begins_statement
statement_none zero = refl
statement_none (suc n) = refl

-- a closing brace begins neither a simple statement nor one that opens a level
pub statement_no_close : (n column : ℕ) → begins_statement n (Some (spot column (t.Symbol s.CloseBrace))) ≡ false
unfolding begins_statement
statement_no_close zero column = refl
statement_no_close (suc n) column = refl
