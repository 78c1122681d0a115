-- WHERE A BODY FAILS TO BE WELL TYPED, and which column is told: in the order of the text, the first operand in which a rule fails;
-- or, where all operands of a node have types, the first of them that isn't what the node asks. The checker's function
-- (`txn_lang`, specs/Typing) finds exactly that: the law at the end.
use Rattle.std.specs.Prelude.{◌≡◌, ◌↔◌, ℕ, Bool, true, false, List, [], ◌∷◌, ◌++◌, map, Option, None, Err}
use Rattle.std.specs.List.{AllByRecursion}
use Rattle.plain_data.specs.Texts.{Bytes}
use Rattle.txn_trees.specs.declared.expression.Expr.{Expr}
use Rattle.txn_trees.specs.declared.expression.Operand.{Operand}
use Rattle.txn_trees.specs.declared.expression.ExprNode.{ExprNode}
use Rattle.txn_trees.specs.declared.expression.ExprNode.TheOpen.{ExprNode-F}
use Rattle.txn_trees.specs.declared.statement.Stmt.{Stmt}
use Rattle.txn_trees.specs.declared.statement.StmtNode.{StmtNode}
use Rattle.txn_trees.specs.declared.statement.StmtNode.TheOpen.{StmtNode-F}
use Rattle.txn_trees.specs.declared.statement.Body.{Body}
use Rattle.txn_grammar.specs.Trees.{column_of}
use Rattle.txn_lang.specs.declared.item_type.Type.{«Type» as ItemType}
use Rattle.txn_lang.specs.declared.item_type.Type.TheVariants as type
use Rattle.txn_lang.specs.Types.{Names, type_bound, same, has_length, may_compare, may_begin, written_type, asked_type}
use Rattle.txn_lang.specs.Typing.{HasType, AreTyped, node_of, step_of, operator_of, value_of, else_of, fits, judge}

-- ---- what a node asks of its operands

-- a test of an operand's type, beside the type of the node's first operand
abbrev pub Test : Type 0
Test = ItemType → ItemType → Bool

-- an operand, with what is asked of it
pub record Asked : Type 0 where
  pub operand : Expr
  pub suits : Test

-- an operand of any type
abbrev pub any : Expr → Asked
any e = record { operand = e; suits = λ first own. true }

-- an operand that has to be of one type
abbrev pub of_type : ItemType → Expr → Asked
of_type wanted e = record { operand = e; suits = λ first own. same own wanted }

-- what stands first in a chain is judged by the first operator
abbrev pub begins : List Operand → ItemType → Bool
begins [] own = true
begins (o ∷ os) own = may_begin (operator_of o) own

-- A further operand of a chain is of the type of the first one, and its operator takes that.
abbrev pub further : Operand → Asked
further o = record { operand = value_of o; suits = λ first own. fits (operator_of o) first own }

-- THE OPERANDS of an expression, in the order of the text, each with what is asked of it
abbrev pub operands : ExprNode-F ExprNode Expr Operand → List Asked
operands (ExprNode-F.Texts es) = map (of_type type.Text) es
operands (ExprNode-F.Len a) = record { operand = a; suits = λ first own. has_length own } ∷ []
operands (ExprNode-F.Str a) = of_type type.Int a ∷ []
operands (ExprNode-F.Negative a) = of_type type.Int a ∷ []
operands (ExprNode-F.Not a) = of_type type.Bool a ∷ []
operands (ExprNode-F.Compare a r b) =
    record { operand = a; suits = λ first own. may_compare r own } ∷ record { operand = b; suits = λ first own. same own first } ∷ []
operands (ExprNode-F.Chain a os) = record { operand = a; suits = λ first own. begins os own } ∷ map further os
operands (ExprNode-F.Read k key word es) = of_type type.Text key ∷ map (of_type (asked_type word)) es
operands leaf = []

-- the operands of a statement
abbrev pub operands_in : StmtNode-F StmtNode Stmt → List Asked
operands_in (StmtNode-F.Let x e) = any e ∷ []
operands_in (StmtNode-F.Emit e) = any e ∷ []
operands_in (StmtNode-F.Fail e) = of_type type.Text e ∷ []
operands_in (StmtNode-F.If e then_do else_do) = of_type type.Bool e ∷ []
operands_in (StmtNode-F.For x e inner) = of_type type.Texts e ∷ []
operands_in (StmtNode-F.Write k key word es) = of_type type.Text key ∷ map (of_type (written_type k)) es

-- ---- one that doesn't suit

-- an operand has some type
pub record IsTypedOperand (names : Names) (a : Asked) : Type 0 where
  pub own : ItemType
  pub typed : HasType names a.operand own

-- an operand has a type, and it passes its test or not
pub record IsTested (names : Names) (first : ItemType) (passes : Bool) (a : Asked) : Type 0 where
  pub own : ItemType
  pub typed : HasType names a.operand own
  pub tested : a.suits first own ≡ passes

-- the first of the operands has this type
abbrev pub BeginsWith : Names → ItemType → List Asked → Type 0
BeginsWith names first [] = Unit {0}
BeginsWith names first (a ∷ rest) = HasType names a.operand first

-- ALL OPERANDS HAVE TYPES, and this is the column of the first that doesn't suit.
pub record IsUnsuited (names : Names) (all : List Asked) (column : ℕ) : Type 0 where
  pub before : List Asked
  pub here : Asked
  pub after : List Asked
  pub split : all ≡ before ++ here ∷ after
  pub first : ItemType
  pub begins_with : BeginsWith names first all
  pub suited : AllByRecursion (IsTested names first true) before
  pub unsuited : IsTested names first false here
  pub others : AllByRecursion (IsTypedOperand names) after
  pub at : column ≡ column_of here.operand

-- ---- where an expression fails

-- AN EXPRESSION FAILS AT A COLUMN, where these names are bound: it is a name that isn't; or it fails in an operand, and those before
-- it have types; or an operand doesn't suit.
pub data Fails (names : Names) : Expr → ℕ → Type 0 where
  unbound : (e : Expr) (x : Bytes) → node_of e ≡ ExprNode-F.Name x → type_bound names x ≡ None → Fails names e (column_of e)
  inside : (e : Expr) (column : ℕ) (before after : List Asked) (here : Asked) → operands (node_of e) ≡ before ++ here ∷ after
      → AllByRecursion (IsTypedOperand names) before → Fails names here.operand column
      → Fails names e column
  unsuited : (e : Expr) (column : ℕ) → IsUnsuited names (operands (node_of e)) column → Fails names e column

-- ---- where statements fail

-- behind a statement these names are bound
pub data Binds (names : Names) (s : Stmt) : Names → Type 0 where
  one : (x : Bytes) (e : Expr) (t : ItemType) → step_of s ≡ StmtNode-F.Let x e → HasType names e t → Binds names s (names ++ (x, t) ∷ [])
  none : ((x : Bytes) (e : Expr) → step_of s ≡ StmtNode-F.Let x e → ⊥) → AreTyped names (s ∷ []) → Binds names s names

-- STATEMENTS FAIL AT A COLUMN: the first one does, in an operand, by one that doesn't suit, or in a block; or it is well typed, and
-- those behind it fail.
pub data BlockFails : Names → List Stmt → ℕ → Type 0 where
  inside : (names : Names) (s : Stmt) (ss : List Stmt) (column : ℕ) (before after : List Asked) (here : Asked)
      → operands_in (step_of s) ≡ before ++ here ∷ after → AllByRecursion (IsTypedOperand names) before → Fails names here.operand column
      → BlockFails names (s ∷ ss) column
  unsuited : (names : Names) (s : Stmt) (ss : List Stmt) (column : ℕ) → IsUnsuited names (operands_in (step_of s)) column
      → BlockFails names (s ∷ ss) column
  then_do : (names : Names) (s : Stmt) (ss inner : List Stmt) (other : Option (List Stmt)) (e : Expr) (column : ℕ)
      → step_of s ≡ StmtNode-F.If e inner other → HasType names e type.Bool → BlockFails names inner column
      → BlockFails names (s ∷ ss) column
  else_do : (names : Names) (s : Stmt) (ss inner : List Stmt) (other : Option (List Stmt)) (e : Expr) (column : ℕ)
      → step_of s ≡ StmtNode-F.If e inner other → HasType names e type.Bool → AreTyped names inner → BlockFails names (else_of other) column
      → BlockFails names (s ∷ ss) column
  turns : (names : Names) (s : Stmt) (ss inner : List Stmt) (x : Bytes) (e : Expr) (column : ℕ)
      → step_of s ≡ StmtNode-F.For x e inner → HasType names e type.Texts → BlockFails (names ++ (x, type.Text) ∷ []) inner column
      → BlockFails names (s ∷ ss) column
  behind : (names next : Names) (s : Stmt) (ss : List Stmt) (column : ℕ) → Binds names s next → BlockFails next ss column
      → BlockFails names (s ∷ ss) column

-- a body fails: where no name is bound, its statements do
abbrev pub BodyFails : Body → ℕ → Type 0
BodyFails body column = BlockFails [] body.stmts column

-- A law: the checker tells a column exactly where the body fails first.
abbrev pub TypeErrorsAreFirst : Type 0
TypeErrorsAreFirst = (b : Body) (column : ℕ) → (judge b ≡ Err column) ↔ BodyFails b column
