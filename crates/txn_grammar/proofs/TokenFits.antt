-- One token: what a rule's first token says of what is ahead, and that each rule of one token is read.
use Rattle.std.proofs.Common.{◌≡◌, ℕ, Bool, true, false, List, ◌∷◌, [], Option, Some, None, refl, ap, sym, ◌∙◌, cond, codes, pos}
use Rattle.std.specs.Option.{option_map}
use denote.Enum.Bare.{same_true, true_same}
use Rattle.rdt_types.specs.declared.address.Kind.{Kind}
use Rattle.rdt_types.specs.declared.address.Kind.TheVariants as kind
use Rattle.txn_trees.specs.declared.word.Operator.TheVariants as operator
use Rattle.txn_trees.specs.declared.word.Relation.TheVariants as relation
use Rattle.txn_trees.specs.declared.word.WriteWord.TheVariants as write
use Rattle.txn_trees.specs.declared.word.ReadWord.TheVariants as read
use Rattle.predictive_parsing.specs.Reading.{next, is_made, begins, one, turns, many}
use Rattle.predictive_parsing.specs.Rules.{One}
use Rattle.predictive_parsing.specs.Fits.{Fits, any}
use Rattle.predictive_parsing.proofs.Combined.{one_fits}
use Rattle.predictive_parsing.specs.Bytes.{byte}
use Rattle.dtext.specs.code.Reading.{pieces}
use Rattle.dtext.specs.code.Reading as texts
use Rattle.txn_grammar.specs.declared.rank.Rank.{Rank}
use Rattle.txn_grammar.specs.declared.rank.Rank.TheVariants as rank
use Rattle.txn_grammar.specs.declared.symbol.Symbol.{Symbol}
use Rattle.txn_grammar.specs.declared.symbol.Symbol.TheVariants as s
use Rattle.txn_grammar.specs.contracts.symbol.Symbol.{the_type}
use Rattle.txn_grammar.specs.declared.token.Token.{Token}
use Rattle.txn_grammar.specs.declared.token.Token.TheVariants as t
use Rattle.txn_grammar.specs.declared.token.Spot.{Spot}
use Rattle.txn_grammar.specs.Spellings.{same_symbol, spelling, reserved_word, mark}
use Rattle.txn_grammar.specs.Numbers.{number_value, small_value}
use Rattle.txn_grammar.specs.Lexer.{spot, lex, token_at, word_at, word_token, number_at, text_at, mark_at, Spelled}
use Rattle.txn_grammar.specs.Tokens.{at, is_symbol, symbol_at, of_symbol, number, text, name, truth_of, operator_of}
use Rattle.txn_grammar.specs.Tokens.{relation_of, kind_of, same_kind, operation, write_named, read_named, write_of}
use Rattle.txn_grammar.specs.Tokens.{read_of}
use Rattle.txn_grammar.specs.Grammar.{Word}
use Rattle.txn_grammar.specs.code.Reader.{word, sees}

-- ---- the token that a rule takes

-- the test on symbols says true of each one and itself
same_self : (symbol : Symbol) → same_symbol symbol symbol ≡ true
unfolding same_symbol
same_self symbol = true_same the_type symbol symbol refl

-- the test on symbols says true of no two different ones
same_is : (a b : Symbol) → same_symbol a b ≡ true → a ≡ b
unfolding same_symbol
same_is a b e = same_true the_type tt a b e

-- the column is given only of a symbol that passes the test, which is this one
symbol_by : (symbol : Symbol) (column c : ℕ) (token : Token) → cond (is_symbol symbol token) (Some column) None ≡ Some c → token ≡ t.Symbol symbol
symbol_by symbol column c (t.Symbol found) e = by (same_symbol found symbol) refl e
  where
    by : (b : Bool) → same_symbol found symbol ≡ b → cond b (Some column) None ≡ Some c → t.Symbol found ≡ t.Symbol symbol
    by true h k = ap t.Symbol (same_is found symbol h)
    by false h k = absurd (cc)
symbol_by symbol column c _ e = absurd (cc)

-- the token that a word's rule takes
pub symbol_is : (symbol : Symbol) (ts us : List Spot) (c : ℕ) (r : Word symbol ts c us) → r.item.token ≡ t.Symbol symbol
symbol_is symbol ts us c r = symbol_by symbol r.item.column c r.item.token r.made

-- what the table f has of a symbol, and the token that is this symbol
pub record OfSymbol {A : Type 0} (f : Symbol → Option A) (token : Token) : Type 0 where
  pub symbol : Symbol
  pub is : token ≡ t.Symbol symbol
  pub made : is_made (f symbol) ≡ true

-- a table of symbols has nothing of any other token
symbol_of : {A : Type 0} (f : Symbol → Option A) (token : Token) → is_made (of_symbol f token) ≡ true → OfSymbol f token
symbol_of f (t.Symbol symbol) e = record { symbol = symbol; is = refl; made = e }
symbol_of f _ e = absurd (cc)

-- what is made is still made when it is seen as another value
made_map : {A B : Type 0} (g : A → B) (o : Option A) → is_made (option_map g o) ≡ is_made o
made_map g (Some a) = refl
made_map g None = refl

-- a token that a rule takes is one of which f makes a value
pub made_at : {A : Type 0} (f : Token → Option A) (ts us : List Spot) (a : ℕ × A) (r : One (at f) ts a us) → is_made (f r.item.token) ≡ true
made_at f ts us a r = sym (made_map (λ x. (r.item.column, x)) (f r.item.token)) ∙ ap is_made r.made

-- ---- what is ahead

-- What holds of each spot with this symbol holds of what is ahead of a word.
pub ahead_of_word : {B : Type 0} (F : Option Spot → B) (b : B) (symbol : Symbol) → ((column : ℕ) → F (Some (spot column (t.Symbol symbol))) ≡ b)
    → (ts us : List Spot) (c : ℕ) → Word symbol ts c us → F (next ts) ≡ b
ahead_of_word F b symbol holds ts us c r =
    ap (λ xs. F (next xs)) r.first ∙ ap (λ token. F (Some (spot r.item.column token))) (symbol_is symbol ts us c r) ∙ holds r.item.column

-- What holds of each spot with a symbol of the table f holds of what is ahead where f makes something of it.
pub ahead_of_symbol : {A B : Type 0} (f : Symbol → Option A) (F : Option Spot → B) (b : B)
    → ((column : ℕ) (symbol : Symbol) → is_made (f symbol) ≡ true → F (Some (spot column (t.Symbol symbol))) ≡ b)
    → (h : Option Spot) → begins (at (of_symbol f)) h ≡ true → F h ≡ b
ahead_of_symbol f F b holds None e = absurd (cc)
ahead_of_symbol f F b holds (Some item) e =
    let k = symbol_of f item.token (sym (made_map (λ x. (item.column, x)) (of_symbol f item.token)) ∙ e) in
    ap (λ token. F (Some (spot item.column token))) k.is ∙ holds item.column k.symbol k.made

-- The same where the symbol is seen.
pub ahead_seen : {B : Type 0} (F : Option Spot → B) (b : B) (symbol : Symbol) → ((column : ℕ) → F (Some (spot column (t.Symbol symbol))) ≡ b)
    → (h : Option Spot) → sees symbol h ≡ true → F h ≡ b
ahead_seen F b symbol holds None e = absurd (cc)
ahead_seen F b symbol holds (Some item) e = ap (λ token. F (Some (spot item.column token))) (by (symbol_at symbol item) refl e) ∙ holds item.column
  where
    by : (o : Option ℕ) → symbol_at symbol item ≡ o → is_made o ≡ true → item.token ≡ t.Symbol symbol
    by None k h = absurd (cc)
    by (Some c) k h = symbol_by symbol item.column c item.token k

-- ---- each token is spelled by some text

-- each symbol's spelling is cut into that symbol alone
pub spelled_symbol : (symbol : Symbol) → Spelled (spot 1 (t.Symbol symbol))
unfolding lex token_at word_at word_token mark_at reserved_word mark spelling same_symbol
spelled_symbol s.Let = (spelling s.Let, refl)
spelled_symbol symbol = (spelling symbol, refl)

-- the text `1` is cut into the number 1
spelled_number : Spelled (spot 1 (t.Number (pos 1)))
unfolding lex token_at number_at number_value small_value
spelled_number = (codes "1", refl)

-- two quotes are cut into the text with nothing in it
spelled_text : Spelled (spot 1 (t.Text []))
unfolding lex token_at text_at texts.text pieces byte many turns one
spelled_text = (34 ∷ 34 ∷ [], refl)

-- the text `a` is cut into the name `a`, which isn't reserved
spelled_name : Spelled (spot 1 (t.Name (codes "a")))
unfolding lex token_at word_at word_token reserved_word
spelled_name = (codes "a", refl)

-- ---- one token is read as its rule says

-- an example of a token of which f makes a value
pub token_fits : {A : Type 0} (f : Token → Option A) (example : Token) (value : A) → f example ≡ Some value
    → Spelled (spot 1 example) → Fits Spelled (one (at f)) (One (at f)) any
token_fits f example value made spelled = one_fits Spelled (at f) (spot 1 example) (1, value) (ap (option_map (λ a. (1, a))) made) spelled

-- an example of a symbol of the table f
symbol_fits : {A : Type 0} (f : Symbol → Option A) (example : Symbol) (value : A) → f example ≡ Some value
    → Fits Spelled (one (at (of_symbol f))) (One (at (of_symbol f))) any
symbol_fits f example value made = token_fits (of_symbol f) (t.Symbol example) value made (spelled_symbol example)

-- the symbol itself is an example, since it is the same as itself
pub word_fits : (symbol : Symbol) → Fits Spelled (word symbol) (Word symbol) any
unfolding word
word_fits symbol = one_fits Spelled (symbol_at symbol) (spot 1 (t.Symbol symbol)) 1 (ap (λ b. cond b (Some 1) None) (same_self symbol)) (spelled_symbol symbol)

-- 1 is an example of a number
pub number_fits : Fits Spelled (one (at number)) (One (at number)) any
number_fits = token_fits number (t.Number (pos 1)) (pos 1) refl spelled_number

-- the text with nothing in it is an example of a text
pub text_fits : Fits Spelled (one (at text)) (One (at text)) any
text_fits = token_fits text (t.Text []) [] refl spelled_text

-- `a` is an example of a name
pub name_fits : Fits Spelled (one (at name)) (One (at name)) any
name_fits = token_fits name (t.Name (codes "a")) (codes "a") refl spelled_name

-- `true` is an example of a truth value
pub truth_fits : Fits Spelled (one (at (of_symbol truth_of))) (One (at (of_symbol truth_of))) any
truth_fits = symbol_fits truth_of s.True true refl

-- each rank has an operator as an example
pub operator_fits : (r : Rank) → Fits Spelled (one (at (of_symbol (operator_of r)))) (One (at (of_symbol (operator_of r)))) any
operator_fits rank.Disjunction = symbol_fits (operator_of rank.Disjunction) s.Or operator.Or refl
operator_fits rank.Conjunction = symbol_fits (operator_of rank.Conjunction) s.And operator.And refl
operator_fits rank.Sum = symbol_fits (operator_of rank.Sum) s.Plus operator.Plus refl
operator_fits rank.Product = symbol_fits (operator_of rank.Product) s.Times operator.Times refl

-- `==` is an example of a comparison
pub relation_fits : Fits Spelled (one (at (of_symbol relation_of))) (One (at (of_symbol relation_of))) any
relation_fits = symbol_fits relation_of s.Equal relation.Equal refl

-- `counter` is an example of a kind
pub kind_fits : Fits Spelled (one (at (of_symbol kind_of))) (One (at (of_symbol kind_of))) any
kind_fits = symbol_fits kind_of s.Counter kind.Counter refl

-- each kind has a write and a read
pub write_fits : (k : Kind) → Fits Spelled (one (at (write_of k))) (One (at (write_of k))) any
unfolding write_named same_kind lex token_at word_at word_token reserved_word
write_fits kind.Bool = token_fits (write_of kind.Bool) (t.Name (codes "put")) (operation write.Put 1) refl (codes "put", refl)
write_fits kind.Counter = token_fits (write_of kind.Counter) (t.Name (codes "put")) (operation write.Put 1) refl (codes "put", refl)
write_fits kind.Text = token_fits (write_of kind.Text) (t.Name (codes "put")) (operation write.Put 1) refl (codes "put", refl)
write_fits kind.Set = token_fits (write_of kind.Set) (t.Name (codes "add")) (operation write.Add 1) refl (codes "add", refl)
write_fits kind.Hash = token_fits (write_of kind.Hash) (t.Name (codes "put")) (operation write.Put 2) refl (codes "put", refl)
write_fits kind.List = token_fits (write_of kind.List) (t.Name (codes "push")) (operation write.Push 1) refl (codes "push", refl)
write_fits kind.Peak = token_fits (write_of kind.Peak) (t.Name (codes "raise")) (operation write.Raise 1) refl (codes "raise", refl)

-- and here is a read of each kind
pub read_fits : (k : Kind) → Fits Spelled (one (at (read_of k))) (One (at (read_of k))) any
unfolding read_named same_kind lex token_at word_at word_token reserved_word
read_fits kind.Bool = token_fits (read_of kind.Bool) (t.Name (codes "get")) (operation read.Get 0) refl (codes "get", refl)
read_fits kind.Counter = token_fits (read_of kind.Counter) (t.Name (codes "get")) (operation read.Get 0) refl (codes "get", refl)
read_fits kind.Text = token_fits (read_of kind.Text) (t.Name (codes "get")) (operation read.Get 0) refl (codes "get", refl)
read_fits kind.Set = token_fits (read_of kind.Set) (t.Name (codes "has")) (operation read.Has 1) refl (codes "has", refl)
read_fits kind.Hash = token_fits (read_of kind.Hash) (t.Name (codes "has")) (operation read.Has 1) refl (codes "has", refl)
read_fits kind.List = token_fits (read_of kind.List) (t.Name (codes "at")) (operation read.At 1) refl (codes "at", refl)
read_fits kind.Peak = token_fits (read_of kind.Peak) (t.Name (codes "get")) (operation read.Get 0) refl (codes "get", refl)
