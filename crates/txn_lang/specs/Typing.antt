-- The rules of typing: which expressions have which type, and which bodies are well typed. The checker's function, which
-- also says where a rule fails first, stands below, and `src/laws.rt` ties it to the rules in both directions.
use Rattle.std.specs.Prelude.{◌≡◌, ℕ, ℤ, Bool, true, false, if◌then◌else◌, List, [], ◌∷◌, ◌++◌, map, slice_get, Option}
use Rattle.std.specs.Prelude.{Some, None, Result, Ok, Err, ◌↔◌, codes, refl}
use Rattle.std.specs.Option.{unwrap_or, option_or}
use Rattle.plain_data.specs.Texts.{Bytes}
use Rattle.rdt_types.specs.declared.address.Kind.{Kind}
use Rattle.rdt_types.specs.declared.address.Kind.TheVariants as kind
use Rattle.txn_trees.specs.declared.word.Operator.{Operator}
use Rattle.txn_trees.specs.declared.word.Operator.TheVariants as operator
use Rattle.txn_trees.specs.declared.word.Relation.{Relation}
use Rattle.txn_trees.specs.declared.word.ReadWord.{ReadWord}
use Rattle.txn_trees.specs.declared.word.ReadWord.TheVariants as read_word
use Rattle.txn_trees.specs.declared.word.WriteWord.{WriteWord}
use Rattle.txn_trees.specs.declared.expression.Expr.{Expr, out-Expr}
use Rattle.txn_trees.specs.declared.expression.Operand.{Operand, out-Operand}
use Rattle.txn_trees.specs.declared.expression.ExprNode.{ExprNode, out-ExprNode}
use Rattle.txn_trees.specs.declared.expression.ExprNode.TheOpen.{ExprNode-F, Expr-F, Operand-F}
use Rattle.txn_trees.specs.declared.expression.Expr.{fold-Expr}
use Rattle.txn_trees.specs.declared.expression.ExprNode.TheFolds.{fold-Operand}
use Rattle.txn_trees.specs.declared.statement.Stmt.{Stmt, out-Stmt, fold-Stmt}
use Rattle.txn_trees.specs.declared.statement.StmtNode.{StmtNode, out-StmtNode}
use Rattle.txn_trees.specs.declared.statement.StmtNode.TheOpen.{StmtNode-F, Stmt-F}
use Rattle.txn_trees.specs.declared.statement.Body.{Body}
use Rattle.txn_grammar.specs.Trees.{column_of}
use Rattle.txn_lang.specs.declared.item_type.Type.{«Type» as ItemType}
use Rattle.txn_lang.specs.declared.item_type.Type.TheVariants as type
use Rattle.txn_lang.specs.Types.{Names, type_bound, same, has_length, may_compare, takes, may_begin, written_type, asked_type, answered_type}

-- what an expression is, and what a statement is
abbrev pub node_of : Expr → ExprNode-F ExprNode Expr Operand
node_of e = out-ExprNode (out-Expr e).node

-- a statement without its column
abbrev pub step_of : Stmt → StmtNode-F StmtNode Stmt
step_of s = out-StmtNode (out-Stmt s).node

-- the operator in front of an operand
abbrev pub operator_of : Operand → Operator
operator_of o = (out-Operand o).operator

-- the operand itself
abbrev pub value_of : Operand → Expr
value_of o = (out-Operand o).value

-- ---- the rules

-- Where these names are bound, an expression has a type. There is a rule for each form of expression; the operands of a
-- chain have all one type, which each operator takes.
pub data HasType (names : Names) : Expr → ItemType → Type 0 where
  number : (e : Expr) (n : ℤ) → node_of e ≡ ExprNode-F.Number n → HasType names e type.Int
  text : (e : Expr) (t : Bytes) → node_of e ≡ ExprNode-F.Text t → HasType names e type.Text
  bool : (e : Expr) (b : Bool) → node_of e ≡ ExprNode-F.Bool b → HasType names e type.Bool
  name : (e : Expr) (x : Bytes) (t : ItemType) → node_of e ≡ ExprNode-F.Name x → type_bound names x ≡ Some t → HasType names e t
  texts : (e : Expr) (es : List Expr) → node_of e ≡ ExprNode-F.Texts es
      → ((i : ℕ) (a : Expr) → slice_get es i ≡ Some a → HasType names a type.Text)
      → HasType names e type.Texts
  length : (e a : Expr) (t : ItemType) → node_of e ≡ ExprNode-F.Len a → HasType names a t → has_length t ≡ true → HasType names e type.Int
  shown : (e a : Expr) → node_of e ≡ ExprNode-F.Str a → HasType names a type.Int → HasType names e type.Text
  negative : (e a : Expr) → node_of e ≡ ExprNode-F.Negative a → HasType names a type.Int → HasType names e type.Int
  negation : (e a : Expr) → node_of e ≡ ExprNode-F.Not a → HasType names a type.Bool → HasType names e type.Bool
  comparison : (e a b : Expr) (r : Relation) (t : ItemType) → node_of e ≡ ExprNode-F.Compare a r b
      → HasType names a t → may_compare r t ≡ true → HasType names b t
      → HasType names e type.Bool
  chain : (e a : Expr) (os : List Operand) (t : ItemType) → node_of e ≡ ExprNode-F.Chain a os
      → HasType names a t
      → ((i : ℕ) (o : Operand) → slice_get os i ≡ Some o → takes (operator_of o) t ≡ true)
      → ((i : ℕ) (o : Operand) → slice_get os i ≡ Some o → HasType names (value_of o) t)
      → HasType names e t
  read : (e key : Expr) (k : Kind) (word : ReadWord) (es : List Expr) → node_of e ≡ ExprNode-F.Read k key word es
      → HasType names key type.Text
      → ((i : ℕ) (a : Expr) → slice_get es i ≡ Some a → HasType names a (asked_type word))
      → HasType names e (answered_type k word)

-- the statements of an `else`, none where there is none
abbrev pub else_of : Option (List Stmt) → List Stmt
else_of branch = unwrap_or branch []

-- Where these names are bound, statements are well typed. A `let` binds its name for the statements behind it in its
-- block, and a `for` a text inside its own.
pub data AreTyped : Names → List Stmt → Type 0 where
  none : (names : Names) → AreTyped names []
  bind : (names : Names) (s : Stmt) (ss : List Stmt) (x : Bytes) (e : Expr) (t : ItemType) → step_of s ≡ StmtNode-F.Let x e
      → HasType names e t → AreTyped (names ++ (x, t) ∷ []) ss
      → AreTyped names (s ∷ ss)
  emit : (names : Names) (s : Stmt) (ss : List Stmt) (e : Expr) (t : ItemType) → step_of s ≡ StmtNode-F.Emit e
      → HasType names e t → AreTyped names ss
      → AreTyped names (s ∷ ss)
  fail : (names : Names) (s : Stmt) (ss : List Stmt) (e : Expr) → step_of s ≡ StmtNode-F.Fail e
      → HasType names e type.Text → AreTyped names ss
      → AreTyped names (s ∷ ss)
  branch : (names : Names) (s : Stmt) (ss then_do : List Stmt) (else_do : Option (List Stmt)) (e : Expr) → step_of s ≡ StmtNode-F.If e then_do else_do
      → HasType names e type.Bool → AreTyped names then_do → AreTyped names (else_of else_do) → AreTyped names ss
      → AreTyped names (s ∷ ss)
  turns : (names : Names) (s : Stmt) (ss inner : List Stmt) (x : Bytes) (e : Expr) → step_of s ≡ StmtNode-F.For x e inner
      → HasType names e type.Texts → AreTyped (names ++ (x, type.Text) ∷ []) inner → AreTyped names ss
      → AreTyped names (s ∷ ss)
  write : (names : Names) (s : Stmt) (ss : List Stmt) (k : Kind) (key : Expr) (word : WriteWord) (es : List Expr)
      → step_of s ≡ StmtNode-F.Write k key word es
      → HasType names key type.Text
      → ((i : ℕ) (a : Expr) → slice_get es i ≡ Some a → HasType names a (written_type k))
      → AreTyped names ss
      → AreTyped names (s ∷ ss)

-- a body is well typed: where no name is bound, its statements are
abbrev pub IsTyped : Body → Type 0
IsTyped body = AreTyped [] body.stmts

-- ---- the checker, which says where a rule fails first

-- something, or the column at which a rule fails first
abbrev pub Judged : Type 0 → Type 0
Judged A = Result A ℕ

-- what goes on where all is well typed so far
abbrev pub and_then : {A B : Type 0} → Judged A → (A → Judged B) → Judged B
and_then (Ok a) f = f a
and_then (Err column) f = Err column

infixl 10 ◌>>=◌
abbrev pub ◌>>=◌ : {A B : Type 0} → Judged A → (A → Judged B) → Judged B
r >>= f = and_then r f

-- a complaint at a column, unless something holds
abbrev pub unless : Bool → ℕ → Option ℕ
unless holds column = if holds then None else Some column

-- The operands of a node are gone through by their own rules before the node's rules are. Until then the first complaint
-- that these make is kept, and here it is told.
abbrev pub told : {A : Type 0} → Option ℕ → A → Judged A
told None a = Ok a
told (Some column) a = Err column

-- an expression, as its column, and its type where some names are bound
pub record Typed : Type 0 where
  pub column : ℕ
  pub judged : Names → Judged ItemType

-- expressions that are each to be of one type, with the first complaint
abbrev pub all_of : ItemType → Option ℕ → List Typed → Names → Judged (Option ℕ)
all_of wanted complaint [] names = Ok complaint
all_of wanted complaint (e ∷ es) names = do
  t ← e.judged names
  all_of wanted (option_or complaint (unless (same t wanted) e.column)) es names

-- whether an operator takes two operands: of one type, and one that it takes
abbrev pub fits : Operator → ItemType → ItemType → Bool
fits o t u = if same u t then takes o t else false

-- the further operands of a chain whose first one has this type
abbrev pub operands_of : ItemType → Option ℕ → List (Operator × Typed) → Names → Judged (Option ℕ)
operands_of t complaint [] names = Ok complaint
operands_of t complaint (o ∷ os) names = do
  u ← o.1.judged names
  operands_of t (option_or complaint (unless (fits o.0 t u) o.1.column)) os names

-- what may stand first in a chain is told by its first operator
abbrev pub may_be_first : ItemType → List (Operator × Typed) → Bool
may_be_first t [] = true
may_be_first t (o ∷ os) = may_begin o.0 t

-- the type of a name, which has to be bound
abbrev pub named : ℕ → Option ItemType → Judged ItemType
named column (Some t) = Ok t
named column None = Err column

-- the type of a node at a column, from those of the expressions in it
abbrev pub judge_node : ExprNode-F (ℕ → Names → Judged ItemType) Typed (Operator × Typed) → ℕ → Names → Judged ItemType
judge_node (ExprNode-F.Number n) column names = Ok type.Int
judge_node (ExprNode-F.Text t) column names = Ok type.Text
judge_node (ExprNode-F.Bool b) column names = Ok type.Bool
judge_node (ExprNode-F.Name x) column names = named column (type_bound names x)
judge_node (ExprNode-F.Texts es) column names = do
  complaint ← all_of type.Text None es names
  told complaint type.Texts
judge_node (ExprNode-F.Len e) column names = do
  t ← e.judged names
  told (unless (has_length t) e.column) type.Int
judge_node (ExprNode-F.Str e) column names = do
  t ← e.judged names
  told (unless (same t type.Int) e.column) type.Text
judge_node (ExprNode-F.Negative e) column names = do
  t ← e.judged names
  told (unless (same t type.Int) e.column) type.Int
judge_node (ExprNode-F.Not e) column names = do
  t ← e.judged names
  told (unless (same t type.Bool) e.column) type.Bool
judge_node (ExprNode-F.Compare a r b) column names = do
  t ← a.judged names
  u ← b.judged names
  told (option_or (unless (may_compare r t) a.column) (unless (same u t) b.column)) type.Bool
judge_node (ExprNode-F.Chain a os) column names = do
  t ← a.judged names
  complaint ← operands_of t (unless (may_be_first t os) a.column) os names
  told complaint t
judge_node (ExprNode-F.Read k key word es) column names = do
  t ← key.judged names
  complaint ← all_of (asked_type word) (unless (same t type.Text) key.column) es names
  told complaint (answered_type k word)

-- an expression with its column
abbrev pub judge_expr : Expr-F (ℕ → Names → Judged ItemType) Typed (Operator × Typed) → Typed
judge_expr e = record { column = e.column; judged = e.node e.column }

-- an operator, and its operand
abbrev pub judge_operand : Operand-F (ℕ → Names → Judged ItemType) Typed (Operator × Typed) → Operator × Typed
judge_operand o = (o.operator, o.value)

-- an expression, with its column and its type
abbrev pub typed : Expr → Typed
typed = fold-Expr (ℕ → Names → Judged ItemType) Typed (Operator × Typed) judge_node judge_expr judge_operand

-- a further operand of a chain, with its operator
abbrev pub judged_operand : Operand → Operator × Typed
judged_operand = fold-Operand (ℕ → Names → Judged ItemType) Typed (Operator × Typed) judge_node judge_expr judge_operand

-- the type of an expression
abbrev pub type_of : Expr → Names → Judged ItemType
type_of e names = (typed e).judged names

-- an expression that is to be of one type
abbrev pub expect : ItemType → Expr → Names → Judged ItemType
expect wanted e names = do
  t ← type_of e names
  told (unless (same t wanted) (column_of e)) t

-- statements in order: the names that are bound after them
abbrev pub in_order : List (Names → Judged Names) → Names → Judged Names
in_order [] names = Ok names
in_order (s ∷ ss) names = do
  after ← s names
  in_order ss after

-- a write binds no name
abbrev pub judge_write : Kind → Expr → List Expr → Names → Judged Names
judge_write k key es names = do
  t ← type_of key names
  complaint ← all_of (written_type k) (unless (same t type.Text) (column_of key)) (map typed es) names
  told complaint names

-- a block binds no name for what is behind it
abbrev pub block : List (Names → Judged Names) → Names → Judged Names
block ss names = do
  _ ← in_order ss names
  Ok names

-- nor does a loop, which binds a text inside its own
abbrev pub turn : Bytes → List (Names → Judged Names) → Names → Judged Names
turn x ss names = do
  _ ← in_order ss (names ++ (x, type.Text) ∷ [])
  Ok names

-- the names that are bound after a statement, from those after the statements in it
abbrev pub judge_step : StmtNode-F (Names → Judged Names) (Names → Judged Names) → Names → Judged Names
judge_step (StmtNode-F.Let x e) names = do
  t ← type_of e names
  Ok (names ++ (x, t) ∷ [])
judge_step (StmtNode-F.Emit e) names = do
  _ ← type_of e names
  Ok names
judge_step (StmtNode-F.Fail e) names = do
  _ ← expect type.Text e names
  Ok names
judge_step (StmtNode-F.If e then_do else_do) names = do
  _ ← expect type.Bool e names
  _ ← block then_do names
  block (unwrap_or else_do []) names
judge_step (StmtNode-F.For x e inner) names = do
  _ ← expect type.Texts e names
  turn x inner names
judge_step (StmtNode-F.Write k key word es) names = judge_write k key es names

-- a statement has no rule beside its node's
abbrev pub judge_stmt : Stmt-F (Names → Judged Names) (Names → Judged Names) → Names → Judged Names
judge_stmt s = s.node

-- the names that are bound after a statement
abbrev pub names_after : Stmt → Names → Judged Names
names_after = fold-Stmt (Names → Judged Names) (Names → Judged Names) judge_step judge_stmt

-- A body is accepted, or the column is told at which a rule fails first in the order of the text.
abbrev pub judge : Body → Judged Names
judge body = in_order (map names_after body.stmts) []

-- ---- worked nodes

-- an operand at a column, of a type
abbrev is_of : ℕ → ItemType → Typed
is_of column t = record { column = column; judged = λ names. Ok t }

-- an operand in which a rule fails at a column
abbrev fails_at : ℕ → ℕ → Typed
fails_at column failed = record { column = column; judged = λ names. Err failed }

-- 1 + true, which begins at 6
sum-of-int-and-bool : judge_node (ExprNode-F.Chain (is_of 6 type.Int) ((operator.Plus, is_of 10 type.Bool) ∷ [])) 6 [] ≡ Err 10
sum-of-int-and-bool = refl

-- true + (1 + "a"): what fails in an operand comes before what fails of it
operands-first : judge_node (ExprNode-F.Chain (is_of 6 type.Bool) ((operator.Plus, fails_at 13 18) ∷ [])) 6 [] ≡ Err 18
operands-first = refl

-- "a" - "b": of a text nothing can be taken away
text-minus : judge_node (ExprNode-F.Chain (is_of 6 type.Text) ((operator.Minus, is_of 12 type.Text) ∷ [])) 6 [] ≡ Err 12
text-minus = refl

-- an unbound name
unbound-name : judge_node (ExprNode-F.Name (codes "y")) 6 [] ≡ Err 6
unbound-name = refl

-- a key that is no text, where an argument is one
key-that-is-no-text : judge_node (ExprNode-F.Read kind.Set (is_of 10 type.Int) read_word.Has (is_of 17 type.Text ∷ [])) 6 [] ≡ Err 10
key-that-is-no-text = refl

-- ---- laws

-- an expression has a type exactly where the checker finds that type
abbrev pub TypesAreFound : Type 0
TypesAreFound = (names : Names) (e : Expr) (t : ItemType) → (type_of e names ≡ Ok t) ↔ HasType names e t

-- a body is well typed exactly where the checker finds no rule that fails
abbrev pub BodiesAreJudged : Type 0
BodiesAreJudged = (b : Body) → ((names : Names) × (judge b ≡ Ok names)) ↔ IsTyped b
