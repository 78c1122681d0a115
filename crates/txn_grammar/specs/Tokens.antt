-- What rules ask of a token: tables of the language, one row each.
use Rattle.std.specs.Prelude.{◌≡◌, ℕ, Bool, true, false, ◌&&◌, if◌then◌else◌, List, codes, find, map, ℤ, Option, Some, None, refl}
use Rattle.std.specs.Option.{option_map}
use Rattle.std.specs.Str.{bytes_eq}
use denote.Enum.Bare.{sameb}
use Rattle.rdt_types.specs.declared.address.Kind.{Kind}
use Rattle.rdt_types.specs.declared.address.Kind.TheVariants as kind
use Rattle.rdt_types.specs.contracts.address.Kind as kinds
use Rattle.txn_trees.specs.declared.word.Operator.{Operator}
use Rattle.txn_trees.specs.declared.word.Operator.TheVariants as operator
use Rattle.txn_trees.specs.declared.word.Relation.{Relation}
use Rattle.txn_trees.specs.declared.word.Relation.TheVariants as relation
use Rattle.txn_trees.specs.declared.word.WriteWord.{WriteWord}
use Rattle.txn_trees.specs.declared.word.WriteWord.TheVariants as write
use Rattle.txn_trees.specs.declared.word.ReadWord.{ReadWord}
use Rattle.txn_trees.specs.declared.word.ReadWord.TheVariants as read
use Rattle.txn_grammar.specs.declared.rank.Rank.{Rank}
use Rattle.txn_grammar.specs.declared.rank.Rank.TheVariants as rank
use Rattle.txn_grammar.specs.declared.symbol.Symbol.{Symbol}
use Rattle.txn_grammar.specs.declared.symbol.Symbol.TheVariants as s
use Rattle.txn_grammar.specs.declared.operation.Operation.{Operation}
use Rattle.txn_grammar.specs.declared.operation.TheConstants.{WRITES, READS}
use Rattle.txn_grammar.specs.declared.token.Token.{Token}
use Rattle.txn_grammar.specs.declared.token.Token.TheVariants as t
use Rattle.txn_grammar.specs.declared.token.Spot.{Spot}
use Rattle.txn_grammar.specs.Characters.{Text}
use Rattle.txn_grammar.specs.Spellings.{same_symbol}

-- ---- tokens with their columns

-- what f makes of a token, with its column
abbrev pub at : {A : Type 0} → (Token → Option A) → Spot → Option (ℕ × A)
at f spot = option_map (λ a. (spot.column, a)) (f spot.token)

-- whether a token is this symbol
abbrev pub is_symbol : Symbol → Token → Bool
is_symbol symbol (t.Symbol found) = same_symbol found symbol
is_symbol symbol other = false

-- the column of this symbol
abbrev pub symbol_at : Symbol → Spot → Option ℕ
symbol_at symbol spot = if is_symbol symbol spot.token then Some spot.column else None

-- what f makes of a symbol
abbrev pub of_symbol : {A : Type 0} → (Symbol → Option A) → Token → Option A
of_symbol f (t.Symbol symbol) = f symbol
of_symbol f other = None

-- ---- values and names

-- the number of a token, if it is one
abbrev pub number : Token → Option ℤ
number (t.Number value) = Some value
number other = None

-- the text of one
abbrev pub text : Token → Option Text
text (t.Text bytes) = Some bytes
text other = None

-- the name of one
abbrev pub name : Token → Option Text
name (t.Name bytes) = Some bytes
name other = None

-- `true` and `false`
abbrev pub truth_of : Symbol → Option Bool
truth_of s.True = Some true
truth_of s.False = Some false
truth_of other = None

-- ---- operators

-- the operators of each rank of chains
abbrev pub operator_of : Rank → Symbol → Option Operator
operator_of rank.Disjunction s.Or = Some operator.Or
operator_of rank.Conjunction s.And = Some operator.And
operator_of rank.Sum s.Plus = Some operator.Plus
operator_of rank.Sum s.Minus = Some operator.Minus
operator_of rank.Product s.Times = Some operator.Times
operator_of _ _ = None

-- the comparisons
abbrev pub relation_of : Symbol → Option Relation
relation_of s.Equal = Some relation.Equal
relation_of s.Unequal = Some relation.Unequal
relation_of s.Less = Some relation.Less
relation_of s.AtMost = Some relation.AtMost
relation_of s.Greater = Some relation.Greater
relation_of s.AtLeast = Some relation.AtLeast
relation_of other = None

-- ---- kinds and their operations

-- the word of each kind
abbrev pub kind_of : Symbol → Option Kind
kind_of s.Bool = Some kind.Bool
kind_of s.Counter = Some kind.Counter
kind_of s.Text = Some kind.Text
kind_of s.Set = Some kind.Set
kind_of s.Hash = Some kind.Hash
kind_of s.List = Some kind.List
kind_of s.Peak = Some kind.Peak
kind_of other = None

-- `==` on kinds
unfoldable pub same_kind : Kind → Kind → Bool
same_kind = sameb kinds.the_type

-- a word with how many arguments it takes
abbrev pub operation : {W : Type 0} → W → ℕ → Operation W
operation word arguments = record { word = word; arguments = arguments }

-- the operation in the row of this kind and spelling
abbrev pub operation_in : {W : Type 0} → List (Kind × Text × W × ℕ) → Kind → Text → Option (Operation W)
operation_in rows kind spelling = option_map (λ row. operation row.2 row.3) (find (λ row. same_kind row.0 kind && bytes_eq row.1 spelling) rows)

-- the write of a kind that a name is
unfoldable pub write_named : Kind → Text → Option (Operation WriteWord)
write_named kind spelling = operation_in (map (λ row. (row.0, row.1.now, row.2, row.3)) WRITES) kind spelling

-- the read of a kind that a name is
unfoldable pub read_named : Kind → Text → Option (Operation ReadWord)
read_named kind spelling = operation_in (map (λ row. (row.0, row.1.now, row.2, row.3)) READS) kind spelling

-- what f makes of a name
abbrev pub of_name : {A : Type 0} → (Text → Option A) → Token → Option A
of_name f (t.Name bytes) = f bytes
of_name f other = None

-- the kind's write that the token names
abbrev pub write_of : Kind → Token → Option (Operation WriteWord)
write_of kind = of_name (write_named kind)

-- the kind's read that the token names
abbrev pub read_of : Kind → Token → Option (Operation ReadWord)
read_of kind = of_name (read_named kind)

-- ---- worked lines

-- `put` of a hash takes a field and a text
put_of_hash : write_named kind.Hash (codes "put") ≡ Some (operation write.Put 2)
unfolding write_named same_kind
put_of_hash = refl

-- nothing is removed from a counter
no_remove_of_counter : write_named kind.Counter (codes "remove") ≡ None
unfolding write_named same_kind
no_remove_of_counter = refl

-- `get` of a hash takes a field, and that of a counter nothing
get_of_hash : read_named kind.Hash (codes "get") ≡ Some (operation read.Get 1)
unfolding read_named same_kind
get_of_hash = refl

get_of_counter : read_named kind.Counter (codes "get") ≡ Some (operation read.Get 0)
unfolding read_named same_kind
get_of_counter = refl

-- a peak is raised to one number and is never put; `over` takes the number that it is held against
raise_of_peak : write_named kind.Peak (codes "raise") ≡ Some (operation write.Raise 1)
unfolding write_named same_kind
raise_of_peak = refl

no_put_of_peak : write_named kind.Peak (codes "put") ≡ None
unfolding write_named same_kind
no_put_of_peak = refl

over_of_peak : read_named kind.Peak (codes "over") ≡ Some (operation read.Over 1)
unfolding read_named same_kind
over_of_peak = refl
