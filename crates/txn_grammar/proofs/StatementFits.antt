-- Statements and bodies: each production is read as its rule says.
use Rattle.std.proofs.Common.{◌≡◌, ℕ, zero, suc, Bool, true, false, ◌||◌, not, List, Option, Some, None, refl, ap, ◌∙◌, inl, inr}
use Rattle.txn_trees.specs.declared.expression.Expr.{Expr}
use Rattle.txn_trees.specs.declared.statement.Stmt.{Stmt}
use Rattle.txn_trees.specs.declared.statement.StmtNode.TheVariants as stmt
use Rattle.predictive_parsing.specs.Reading.{Reader, next, is_made}
use Rattle.predictive_parsing.specs.Rules.{Rule}
use Rattle.predictive_parsing.specs.Fits.{Fits, any, unless}
use Rattle.predictive_parsing.proofs.Combined.{one_begins, seen, onwards, followed, narrowed, either_fits, optional_fits}
use Rattle.predictive_parsing.proofs.Lists.{many_fits, list_fits}
use Rattle.txn_grammar.specs.declared.limit.TheConstants.{DEEPEST}
use Rattle.txn_grammar.specs.declared.form.Simple.{Simple}
use Rattle.txn_grammar.specs.declared.form.Simple.TheVariants as simple
use Rattle.txn_grammar.specs.declared.form.Nesting.{Nesting}
use Rattle.txn_grammar.specs.declared.form.Nesting.TheVariants as nesting
use Rattle.txn_grammar.specs.declared.symbol.Symbol.{Symbol}
use Rattle.txn_grammar.specs.declared.symbol.Symbol.TheVariants as s
use Rattle.txn_grammar.specs.declared.token.Token.TheVariants as t
use Rattle.txn_grammar.specs.declared.token.Spot.{Spot}
use Rattle.txn_grammar.specs.Spellings.{same_symbol}
use Rattle.txn_grammar.specs.Lexer.{spot, Spelled}
use Rattle.txn_grammar.specs.Tokens.{at, symbol_at, of_symbol, kind_of}
use Rattle.txn_grammar.specs.Trees.{stmt_at, write_stmt, body_of}
use Rattle.txn_grammar.specs.Grammar.{Word, LetStmt, EmitStmt, FailStmt, SimpleStmt, Block, Otherwise, IfStmt, ForStmt}
use Rattle.txn_grammar.specs.Grammar.{WriteStmt, NestingStmt, Statement, BodyRule}
use Rattle.txn_grammar.specs.code.Forms.{of_next, simple_at, nesting_at}
use Rattle.txn_grammar.specs.code.Reader.{sees, let_stmt, emit_stmt, fail_stmt, simple_read, simple_stmt, begins_simple}
use Rattle.txn_grammar.specs.code.Reader.{begins_nesting, begins_statement, block, otherwise_read, if_stmt, for_stmt}
use Rattle.txn_grammar.specs.code.Reader.{write_stmt_read, nesting_read, nesting_stmt, statement, body}
use Rattle.txn_grammar.proofs.Choices.{AnyOf, chosen_fits}
use Rattle.txn_grammar.proofs.TokenFits.{ahead_of_word, ahead_of_symbol, word_fits, name_fits, write_fits}
use Rattle.txn_grammar.proofs.Ends.{expression_end, statement_end, begins_expression, nesting_not_simple, statement_goes, statement_none, statement_no_close}
use Rattle.txn_grammar.proofs.ExpressionFits.{told, in_parens_fits, arguments_fits, targeted_fits, expression_fits, expression_begins}

-- ---- simple statements

-- the rule of each simple statement
simple_branch : Rule Spot Expr → Simple → Rule Spot Stmt
simple_branch E simple.Let = LetStmt E
simple_branch E simple.Emit = EmitStmt E
simple_branch E simple.Fail = FailStmt E

module _ (e : Reader Spot Expr) (E : Rule Spot Expr) (fe : Fits Spelled e E expression_end) where
  -- an expression up to the semicolon
  ended : (us vs : List Spot) (c : ℕ) → Word s.Semicolon us c vs → expression_end (next us) ≡ true
  ended us vs c r = ahead_of_word expression_end true s.Semicolon (λ c. refl) us vs c r

  -- form by form, part after part: a semicolon may follow an expression
  simple_branch_fits : (b : Simple) → Fits Spelled (simple_read e b) (simple_branch E b) any
  unfolding simple_branch let_stmt emit_stmt fail_stmt
  simple_branch_fits simple.Let = onwards Spelled (word_fits s.Let) (λ column. onwards Spelled name_fits (λ found. onwards Spelled (word_fits s.Assign) (λ _.
      followed Spelled fe (λ value. seen Spelled (λ _. stmt_at column (stmt.Let found.1 value)) (word_fits s.Semicolon))
      (λ value us vs b r h. ended us r.middle r.value r.first))))
  simple_branch_fits simple.Emit = onwards Spelled (word_fits s.Emit) (λ column.
      followed Spelled fe (λ value. seen Spelled (λ _. stmt_at column (stmt.Emit value)) (word_fits s.Semicolon))
      (λ value us vs b r h. ended us r.middle r.value r.first))
  simple_branch_fits simple.Fail = onwards Spelled (word_fits s.Fail) (λ column.
      followed Spelled fe (λ value. seen Spelled (λ _. stmt_at column (stmt.Fail value)) (word_fits s.Semicolon))
      (λ value us vs b r h. ended us r.middle r.value r.first))

  -- each form's first token is its word
  simple_begun : (b : Simple) (ts us : List Spot) (a : Stmt) → simple_branch E b ts a us → of_next simple_at (next ts) ≡ Some b
  unfolding simple_branch
  simple_begun simple.Let ts us a r = ahead_of_word (of_next simple_at) (Some simple.Let) s.Let (λ c. refl) ts r.middle r.value r.first
  simple_begun simple.Emit ts us a r = ahead_of_word (of_next simple_at) (Some simple.Emit) s.Emit (λ c. refl) ts r.middle r.value r.first
  simple_begun simple.Fail ts us a r = ahead_of_word (of_next simple_at) (Some simple.Fail) s.Fail (λ c. refl) ts r.middle r.value r.first

  -- form by form: the choice is one of the three alternatives
  to_simple : (ts us : List Spot) (a : Stmt) → AnyOf (simple_branch E) ts a us → SimpleStmt E ts a us
  unfolding simple_branch
  to_simple ts us a (simple.Let, r) = inl r
  to_simple ts us a (simple.Emit, r) = inr (inl r)
  to_simple ts us a (simple.Fail, r) = inr (inr r)

  -- and each alternative is one of the choices
  from_simple : (ts us : List Spot) (a : Stmt) → SimpleStmt E ts a us → AnyOf (simple_branch E) ts a us
  unfolding simple_branch
  from_simple ts us a (inl r) = (simple.Let, r)
  from_simple ts us a (inr (inl r)) = (simple.Emit, r)
  from_simple ts us a (inr (inr r)) = (simple.Fail, r)

  -- what is ahead of a simple statement tells one
  simple_begins : (ts us : List Spot) (a : Stmt) → SimpleStmt E ts a us → begins_simple (next ts) ≡ true
  simple_begins ts us a r = let x = from_simple ts us a r in told simple_at (next ts) x.0 (simple_begun x.0 ts us a x.1)

  -- the word ahead tells which form is derived, so the reader chooses as the rule does
  simple_fits : Fits Spelled (simple_stmt e) (SimpleStmt E) any
  unfolding simple_stmt
  simple_fits = chosen_fits Spelled simple_at simple.Emit (simple_read e) (simple_branch E) any simple_branch_fits simple_begun
      (SimpleStmt E) to_simple from_simple

-- ---- blocks

module _ (starts : Option Spot → Bool) (p : Reader Spot Stmt) (P : Rule Spot Stmt) (fp : Fits Spelled p P statement_end)
    (p_begins : (ts us : List Spot) (a : Stmt) → P ts a us → starts (next ts) ≡ true) (at_end : starts None ≡ false)
    (goes : (h : Option Spot) → starts h ≡ true → statement_end h ≡ true)
    (closed : (column : ℕ) → starts (Some (spot column (t.Symbol s.CloseBrace))) ≡ false) where
  -- no statement begins with a closing brace, and it may follow one
  closes : (column : ℕ) → unless starts statement_end (Some (spot column (t.Symbol s.CloseBrace))) ≡ true
  unfolding same_symbol
  closes column = ap not (closed column)

  -- the braces, and between them any number of statements, which a closing brace ends
  pub block_fits : Fits Spelled (block starts p) (Block P) any
  unfolding block
  block_fits = onwards Spelled (word_fits s.OpenBrace) (λ _. followed Spelled (many_fits Spelled starts p P statement_end fp p_begins at_end goes)
      (λ stmts. seen Spelled (λ _. stmts) (word_fits s.CloseBrace))
      (λ stmts us vs b r h. ahead_of_word (unless starts statement_end) true s.CloseBrace closes us r.middle r.value r.first))

  -- the word, and then a block
  otherwise_fits : Fits Spelled (otherwise_read starts p) (Otherwise P) any
  unfolding otherwise_read
  otherwise_fits = onwards Spelled (word_fits s.Else) (λ _. block_fits)

  -- its first token is `else`
  otherwise_begins : (ts us : List Spot) (a : List Stmt) → Otherwise P ts a us → sees s.Else (next ts) ≡ true
  otherwise_begins ts us a r = one_begins Spelled (symbol_at s.Else) ts r.middle r.value r.first

  module _ (e : Reader Spot Expr) (E : Rule Spot Expr) (fe : Fits Spelled e E expression_end) where
    -- a block ends the expression before it
    opens_block : (us vs : List Spot) (c : ℕ) → Word s.OpenBrace us c vs → expression_end (next us) ≡ true
    opens_block us vs c r = ahead_of_word expression_end true s.OpenBrace (λ c. refl) us vs c r

    -- the word, the condition, its block, and an `else` where one is ahead: a brace may follow the condition
    if_fits : Fits Spelled (if_stmt e starts p) (IfStmt E P) statement_end
    unfolding if_stmt
    if_fits = onwards Spelled (word_fits s.If) (λ column. followed Spelled fe (λ condition. onwards Spelled block_fits (λ holds.
        seen Spelled (λ otherwise. stmt_at column (stmt.If condition holds otherwise))
        (optional_fits Spelled (sees s.Else) (otherwise_read starts p) (Otherwise P) any otherwise_fits otherwise_begins)))
        (λ condition us vs b r h. opens_block us r.first.middle r.first.value r.first.first))

    -- the word, the name, `in`, the texts and the block: a brace may follow the texts
    for_fits : Fits Spelled (for_stmt e starts p) (ForStmt E P) any
    unfolding for_stmt
    for_fits = onwards Spelled (word_fits s.For) (λ column. onwards Spelled name_fits (λ found. onwards Spelled (word_fits s.In) (λ _.
        followed Spelled fe (λ texts. seen Spelled (λ each. stmt_at column (stmt.For found.1 texts each)) block_fits)
        (λ texts us vs b r h. opens_block us r.first.middle r.first.value r.first.first))))

-- a target, a word of its kind, as many arguments as that takes, and a semicolon, one after another
write_stmt_fits : (e : Reader Spot Expr) (E : Rule Spot Expr) → Fits Spelled e E expression_end
    → ((ts us : List Spot) (a : Expr) → E ts a us → begins_expression (next ts) ≡ true)
    → Fits Spelled (write_stmt_read e) (WriteStmt E) any
unfolding write_stmt_read
write_stmt_fits e E fe e_begins = onwards Spelled (targeted_fits e E fe e_begins) (λ target. onwards Spelled (write_fits target.kind) (λ operation.
    onwards Spelled (in_parens_fits _ _ (arguments_fits e E fe e_begins operation.1.arguments)) (λ arguments.
    seen Spelled (λ _. write_stmt target operation.1.word arguments.1) (word_fits s.Semicolon))))

-- ---- statements that open a level

-- the word of each kind begins a write
kind_writes : (column : ℕ) (symbol : Symbol) → is_made (kind_of symbol) ≡ true → of_next nesting_at (Some (spot column (t.Symbol symbol))) ≡ Some nesting.Write
kind_writes column s.Bool e = refl
kind_writes column s.Counter e = refl
kind_writes column s.Text e = refl
kind_writes column s.Set e = refl
kind_writes column s.Hash e = refl
kind_writes column s.List e = refl
kind_writes column s.Peak e = refl
kind_writes column _ e = absurd (cc)

module _ (E : Rule Spot Expr) (A : Rule Spot Expr) (P : Rule Spot Stmt) where
  -- the rule of each statement that opens a level
  nesting_branch : Nesting → Rule Spot Stmt
  nesting_branch nesting.If = IfStmt E P
  nesting_branch nesting.For = ForStmt E P
  nesting_branch nesting.Write = WriteStmt A

  -- each form's first token tells it: its word, or the word of a kind for a write
  nesting_begun : (b : Nesting) (ts us : List Spot) (a : Stmt) → nesting_branch b ts a us → of_next nesting_at (next ts) ≡ Some b
  unfolding nesting_branch
  nesting_begun nesting.If ts us a r = ahead_of_word (of_next nesting_at) (Some nesting.If) s.If (λ c. refl) ts r.middle r.value r.first
  nesting_begun nesting.For ts us a r = ahead_of_word (of_next nesting_at) (Some nesting.For) s.For (λ c. refl) ts r.middle r.value r.first
  nesting_begun nesting.Write ts us a r =
      let k = r.first.first in
      ahead_of_symbol kind_of (of_next nesting_at) (Some nesting.Write) kind_writes (next ts)
      (one_begins Spelled (at (of_symbol kind_of)) ts r.first.middle r.first.value k)

  -- form by form: the choice is one of the three alternatives
  to_nesting : (ts us : List Spot) (a : Stmt) → AnyOf nesting_branch ts a us → NestingStmt E A P ts a us
  unfolding nesting_branch
  to_nesting ts us a (nesting.If, r) = inl r
  to_nesting ts us a (nesting.For, r) = inr (inl r)
  to_nesting ts us a (nesting.Write, r) = inr (inr r)

  -- and each alternative is one of the choices
  from_nesting : (ts us : List Spot) (a : Stmt) → NestingStmt E A P ts a us → AnyOf nesting_branch ts a us
  unfolding nesting_branch
  from_nesting ts us a (inl r) = (nesting.If, r)
  from_nesting ts us a (inr (inl r)) = (nesting.For, r)
  from_nesting ts us a (inr (inr r)) = (nesting.Write, r)

  -- what is ahead of a statement that opens a level tells one of the forms
  nesting_begins : (ts us : List Spot) (a : Stmt) → NestingStmt E A P ts a us → begins_nesting (next ts) ≡ true
  nesting_begins ts us a r = let x = from_nesting ts us a r in told nesting_at (next ts) x.0 (nesting_begun x.0 ts us a x.1)

module _ (e : Reader Spot Expr) (E : Rule Spot Expr) (fe : Fits Spelled e E expression_end)
    (a : Reader Spot Expr) (A : Rule Spot Expr) (fa : Fits Spelled a A expression_end)
    (a_begins : (ts us : List Spot) (x : Expr) → A ts x us → begins_expression (next ts) ≡ true)
    (starts : Option Spot → Bool) (p : Reader Spot Stmt) (P : Rule Spot Stmt) (fp : Fits Spelled p P statement_end)
    (p_begins : (ts us : List Spot) (x : Stmt) → P ts x us → starts (next ts) ≡ true) (at_end : starts None ≡ false)
    (goes : (h : Option Spot) → starts h ≡ true → statement_end h ≡ true)
    (closed : (column : ℕ) → starts (Some (spot column (t.Symbol s.CloseBrace))) ≡ false) where
  -- each form is read as its rule says; an `if` alone minds an `else` behind it
  nesting_branch_fits : (b : Nesting) → Fits Spelled (nesting_read e a starts p b) (nesting_branch E A P b) statement_end
  unfolding nesting_branch
  nesting_branch_fits nesting.If = if_fits starts p P fp p_begins at_end goes closed e E fe
  nesting_branch_fits nesting.For = narrowed Spelled statement_end (λ h k. refl) (for_fits starts p P fp p_begins at_end goes closed e E fe)
  nesting_branch_fits nesting.Write = narrowed Spelled statement_end (λ h k. refl) (write_stmt_fits a A fa a_begins)

  -- the token ahead tells which form is derived, so the reader chooses as the rule does
  nesting_fits : Fits Spelled (nesting_stmt e a starts p) (NestingStmt E A P) statement_end
  unfolding nesting_stmt
  nesting_fits =
      chosen_fits Spelled nesting_at nesting.Write (nesting_read e a starts p) (nesting_branch E A P) statement_end
      nesting_branch_fits (nesting_begun E A P)
      (NestingStmt E A P) (to_nesting E A P) (from_nesting E A P)

-- ---- statements, by the levels that are left

-- it is a simple one and begins so, or it opens a level and begins as such
statement_begins : (n : ℕ) (ts us : List Spot) (a : Stmt) → Statement n ts a us → begins_statement n (next ts) ≡ true
unfolding Statement begins_statement
statement_begins zero ts us a r = simple_begins _ _ (expression_fits zero) ts us a r
statement_begins (suc n) ts us a (inl r) = ap (λ b. b || begins_nesting (next ts)) (simple_begins _ _ (expression_fits (suc n)) ts us a r)
statement_begins (suc n) ts us a (inr r) =
    let k = nesting_begins _ _ _ ts us a r in
    ap (λ b. b || begins_nesting (next ts)) (nesting_not_simple (next ts) k) ∙ k

-- level by level: simple ones are told from those that open a level by the token ahead
pub statement_fits : (n : ℕ) → Fits Spelled (statement n) (Statement n) statement_end
unfolding statement Statement
statement_fits zero = narrowed Spelled statement_end (λ h k. refl) (simple_fits _ _ (expression_fits zero))
statement_fits (suc n) = either_fits Spelled begins_simple _ _ _ _ statement_end
    (narrowed Spelled statement_end (λ h k. refl) (simple_fits _ _ (expression_fits (suc n))))
    (nesting_fits _ _ (expression_fits (suc n)) _ _ (expression_fits n) (expression_begins n)
    (begins_statement n) _ _ (statement_fits n) (statement_begins n) (statement_none n) (statement_goes n) (statement_no_close n))
    (λ ts us a r. simple_begins _ _ (expression_fits (suc n)) ts us a r)
    (λ ts us a r h. nesting_not_simple (next ts) (nesting_begins _ _ _ ts us a r))

-- one statement and then any number of others: each may follow another, and none begins at the end
pub body_fits : Fits Spelled body BodyRule (unless (begins_statement DEEPEST) statement_end)
unfolding body
body_fits = seen Spelled body_of (list_fits Spelled (begins_statement DEEPEST) (statement DEEPEST) (Statement DEEPEST) statement_end (statement_fits DEEPEST)
    (statement_begins DEEPEST) (statement_none DEEPEST) (statement_goes DEEPEST) (statement DEEPEST) (Statement DEEPEST) (statement_fits DEEPEST))
