-- What is shown of a statement or a body that the grammar derives is read back, within the same levels.
use Rattle.std.proofs.Common.{◌≡◌, ℕ, zero, suc, List, [], ◌∷◌, ◌++◌, map, length, Option, Some, None, refl, ap, sym, ◌∙◌, subst, inl, inr, append_assoc}
use Rattle.std.specs.List.{flat_map}
use Rattle.std.specs.Option.{option_map}
use Rattle.plain_data.specs.Texts.{Bytes}
use Rattle.rdt_types.specs.declared.address.Kind.{Kind}
use Rattle.predictive_parsing.specs.Rules.{Rule, One, Pure, Many, none, more, ListOf, Optional, ◌>>=◌}
use Rattle.txn_trees.specs.declared.expression.Expr.{Expr}
use Rattle.txn_trees.specs.declared.statement.Stmt.{Stmt}
use Rattle.txn_trees.specs.declared.statement.StmtNode.TheVariants as stmt
use Rattle.txn_trees.specs.declared.statement.Body.{Body}
use Rattle.txn_trees.specs.declared.word.WriteWord.{WriteWord}
use Rattle.txn_grammar.specs.declared.symbol.Symbol.TheVariants as s
use Rattle.txn_grammar.specs.declared.operation.Operation.{Operation}
use Rattle.txn_grammar.specs.declared.target.Target.{Target}
use Rattle.txn_grammar.specs.declared.token.Token.{Token}
use Rattle.txn_grammar.specs.declared.token.Token.TheVariants as t
use Rattle.txn_grammar.specs.declared.token.Spot.{Spot}
use Rattle.txn_grammar.specs.declared.limit.TheConstants.{DEEPEST}
use Rattle.txn_grammar.specs.Tokens.{at, name, write_of, write_named}
use Rattle.txn_grammar.specs.Trees.{stmt_at, write_stmt, body_of}
use Rattle.txn_grammar.specs.Grammar.{Word, InParens, Arguments, Targeted, Expression, LetStmt, EmitStmt, FailStmt}
use Rattle.txn_grammar.specs.Grammar.{SimpleStmt, Block, Otherwise, IfStmt, ForStmt, WriteStmt, NestingStmt, Statement}
use Rattle.txn_grammar.specs.Grammar.{BodyRule}
use Rattle.txn_print.specs.Pieces.{Piece, spaced, closing, word}
use Rattle.txn_print.specs.Canonical.{expression, block, otherwise, ended, target, request, operation, write_name, shown_stmt, shown_body}
use Rattle.txn_print.specs.Columns.{bare, bare_stmt, without_columns}
use Rattle.txn_print.proofs.Erased.{bared_let, bared_emit, bared_fail, bared_if, bared_for, bared_write}
use Rattle.txn_print.proofs.Equations.{at_let, at_emit, at_fail, at_if, at_for, at_write}
use Rattle.txn_print.proofs.Operations.{write_again}
use Rattle.txn_print.proofs.Back.{Back, Each, within, pure_back, then_back, mapped_back, many_back}
use Rattle.txn_print.proofs.Within.{Within}
use Rattle.txn_print.proofs.Keeps.{keep_one, keep_block, keep_expression, keep_targeted, keep_statement}
use Rattle.txn_print.proofs.Productions.{Goods, no_column, value_of, bare_target, word_back, at_back, flat-map, targeted_back, request_then}
use Rattle.txn_print.proofs.Expressions.{G as source, expression_fine, inside_parens, good_name, made_at, shows, arguments_shown, aimed}

module _ (Good : Piece → Type 0) (goods : Goods Good) where
  -- a token of the source is good as it would stand between spaces, unless it is malformed
  abbrev G : Spot → Type 0
  G = source Good goods

  -- ---- productions

  -- up to the semicolon
  ended_back : (E : Rule Spot Expr) (f : Expr → Stmt) (ps : List Piece) (w : Expr) (v : Stmt) → Back Good bare E ps w
      → ((e : Expr) → bare e ≡ w → bare_stmt (f e) ≡ v)
      → Back Good bare_stmt (E >>= λ e. Word s.Semicolon >>= λ d. Pure (f e)) (ended ps) v
  ended_back E f ps w v b h =
      then_back Good bare bare_stmt E (λ e. Word s.Semicolon >>= λ d. Pure (f e)) ps (closing s.Semicolon ∷ []) w v b
      (λ e i. mapped_back Good no_column bare_stmt (Word s.Semicolon) (λ d. f e) (closing s.Semicolon ∷ []) tt v
      (word_back Good s.Semicolon (closing s.Semicolon) goods.semicolon refl) (λ d j. h e i))

  -- its word, a name, the sign, and an expression up to the semicolon, one after another
  let_back : (E : Rule Spot Expr) (n : Bytes) (ps : List Piece) (w : Expr) → Good (spaced (t.Name n)) → Back Good bare E ps w
      → Back Good bare_stmt (LetStmt E) (word s.Let ∷ spaced (t.Name n) ∷ word s.Assign ∷ ended ps) (stmt_at 0 (stmt.Let n w))
  let_back E n ps w g b =
      then_back Good no_column bare_stmt (Word s.Let)
      (λ c. One (at name) >>= λ x. Word s.Assign >>= λ a. E >>= λ e. Word s.Semicolon >>= λ d. Pure (stmt_at c (stmt.Let x.1 e)))
      (word s.Let ∷ []) (spaced (t.Name n) ∷ word s.Assign ∷ ended ps) tt _ (word_back Good s.Let (word s.Let) (goods.words s.Let) refl)
      (λ c i. then_back Good value_of bare_stmt (One (at name))
      (λ x. Word s.Assign >>= λ a. E >>= λ e. Word s.Semicolon >>= λ d. Pure (stmt_at c (stmt.Let x.1 e)))
      (spaced (t.Name n) ∷ []) (word s.Assign ∷ ended ps) n _ (at_back Good name (spaced (t.Name n)) n g refl)
      (λ x j. then_back Good no_column bare_stmt (Word s.Assign) (λ a. E >>= λ e. Word s.Semicolon >>= λ d. Pure (stmt_at c (stmt.Let x.1 e)))
      (word s.Assign ∷ []) (ended ps) tt _ (word_back Good s.Assign (word s.Assign) (goods.words s.Assign) refl)
      (λ a k. ended_back E (λ e. stmt_at c (stmt.Let x.1 e)) ps w _ b
      (λ e h. bared_let c x.1 e ∙ ap (λ y. stmt_at 0 (stmt.Let y (bare e))) j ∙ ap (λ y. stmt_at 0 (stmt.Let n y)) h))))

  -- its word, and an expression up to the semicolon
  emit_back : (E : Rule Spot Expr) (ps : List Piece) (w : Expr) → Back Good bare E ps w
      → Back Good bare_stmt (EmitStmt E) (word s.Emit ∷ ended ps) (stmt_at 0 (stmt.Emit w))
  emit_back E ps w b =
      then_back Good no_column bare_stmt (Word s.Emit) (λ c. E >>= λ e. Word s.Semicolon >>= λ d. Pure (stmt_at c (stmt.Emit e))) (word s.Emit ∷ [])
      (ended ps) tt _
      (word_back Good s.Emit (word s.Emit) (goods.words s.Emit) refl)
      (λ c i. ended_back E (λ e. stmt_at c (stmt.Emit e)) ps w _ b (λ e h. bared_emit c e ∙ ap (λ y. stmt_at 0 (stmt.Emit y)) h))

  -- its word, and an expression up to the semicolon
  fail_back : (E : Rule Spot Expr) (ps : List Piece) (w : Expr) → Back Good bare E ps w
      → Back Good bare_stmt (FailStmt E) (word s.Fail ∷ ended ps) (stmt_at 0 (stmt.Fail w))
  fail_back E ps w b =
      then_back Good no_column bare_stmt (Word s.Fail) (λ c. E >>= λ e. Word s.Semicolon >>= λ d. Pure (stmt_at c (stmt.Fail e))) (word s.Fail ∷ [])
      (ended ps) tt _
      (word_back Good s.Fail (word s.Fail) (goods.words s.Fail) refl)
      (λ c i. ended_back E (λ e. stmt_at c (stmt.Fail e)) ps w _ b (λ e h. bared_fail c e ∙ ap (λ y. stmt_at 0 (stmt.Fail y)) h))

  -- each statement is read back
  abbrev Reads : Rule Spot Stmt → List Stmt → Type 0
  Reads S = Each (λ x. Back Good bare_stmt S (shown_stmt x) (bare_stmt x))

  -- between braces, each statement is read back where the one before it ends
  block_back : (S : Rule Spot Stmt) (ss : List Stmt) → Reads S ss
      → Back Good (map bare_stmt) (Block S) (block (map shown_stmt ss)) (map bare_stmt ss)
  block_back S ss h =
      let ps = flat_map (λ (p : List Piece). p) (map shown_stmt ss) in
      then_back Good no_column (map bare_stmt) (Word s.OpenBrace) (λ c. Many S >>= λ xs. Word s.CloseBrace >>= λ d. Pure xs) (word s.OpenBrace ∷ [])
      (ps ++ word s.CloseBrace ∷ []) tt _
      (word_back Good s.OpenBrace (word s.OpenBrace) (goods.words s.OpenBrace) refl)
      (λ c i. then_back Good (map bare_stmt) (map bare_stmt) (Many S) (λ xs. Word s.CloseBrace >>= λ d. Pure xs) ps (word s.CloseBrace ∷ [])
      (map bare_stmt ss) _
      (subst (λ qs. Back Good (map bare_stmt) (Many S) qs (map bare_stmt ss)) (sym (flat-map Good goods shown_stmt (λ (p : List Piece). p) ss))
      (many_back Good bare_stmt S shown_stmt ss h))
      (λ xs j. mapped_back Good no_column (map bare_stmt) (Word s.CloseBrace) (λ d. xs) (word s.CloseBrace ∷ []) tt _
      (word_back Good s.CloseBrace (word s.CloseBrace) (goods.words s.CloseBrace) refl) (λ d k. j)))

  -- the statements behind an `else`, if there is one
  abbrev ReadsOther : Rule Spot Stmt → Option (List Stmt) → Type 0
  ReadsOther S None = Unit {0}
  ReadsOther S (Some ss) = Reads S ss

  -- nothing is read back as no `else`; else its word and then its block are
  otherwise_back : (S : Rule Spot Stmt) (other : Option (List Stmt)) → ReadsOther S other
      → Back Good (option_map (map bare_stmt)) (Optional (Otherwise S)) (otherwise (option_map (map shown_stmt) other)) (option_map (map bare_stmt) other)
  otherwise_back S None h =
      within Good (option_map (map bare_stmt)) (Pure None) (Optional (Otherwise S)) [] None (λ ts us a x. inr x)
      (pure_back Good (option_map (map bare_stmt)) None None refl)
  otherwise_back S (Some ss) h =
      within Good (option_map (map bare_stmt)) (Otherwise S >>= λ x. Pure (Some x)) (Optional (Otherwise S)) _ _ (λ ts us a x. inl x)
      (mapped_back Good (map bare_stmt) (option_map (map bare_stmt)) (Otherwise S) (λ x. Some x) (word s.Else ∷ block (map shown_stmt ss)) (map bare_stmt ss) _
      (then_back Good no_column (map bare_stmt) (Word s.Else) (λ c. Block S) (word s.Else ∷ []) (block (map shown_stmt ss)) tt _
      (word_back Good s.Else (word s.Else) (goods.words s.Else) refl) (λ c i. block_back S ss h))
      (λ x i. ap (λ y. Some y) i))

  -- its word, the condition, its block, and what follows of an `else`, one after another
  if_back : (E : Rule Spot Expr) (S : Rule Spot Stmt) (ps : List Piece) (w : Expr) (ss : List Stmt) (other : Option (List Stmt))
      → Back Good bare E ps w → Reads S ss → ReadsOther S other
      → Back Good bare_stmt (IfStmt E S) (word s.If ∷ (ps ++ (block (map shown_stmt ss) ++ otherwise (option_map (map shown_stmt) other))))
      (stmt_at 0 (stmt.If w (map bare_stmt ss) (option_map (map bare_stmt) other)))
  if_back E S ps w ss other b h k =
      let qs = block (map shown_stmt ss) in
      let rs = otherwise (option_map (map shown_stmt) other) in
      then_back Good no_column bare_stmt (Word s.If)
      (λ c. E >>= λ e. Block S >>= λ xs. Optional (Otherwise S) >>= λ m. Pure (stmt_at c (stmt.If e xs m))) (word s.If ∷ []) (ps ++ (qs ++ rs)) tt _
      (word_back Good s.If (word s.If) (goods.words s.If) refl)
      (λ c i. then_back Good bare bare_stmt E (λ e. Block S >>= λ xs. Optional (Otherwise S) >>= λ m. Pure (stmt_at c (stmt.If e xs m))) ps (qs ++ rs) w _ b
      (λ e j. then_back Good (map bare_stmt) bare_stmt (Block S) (λ xs. Optional (Otherwise S) >>= λ m. Pure (stmt_at c (stmt.If e xs m))) qs rs
      (map bare_stmt ss) _ (block_back S ss h)
      (λ xs l. mapped_back Good (option_map (map bare_stmt)) bare_stmt (Optional (Otherwise S)) (λ m. stmt_at c (stmt.If e xs m)) rs
      (option_map (map bare_stmt) other) _ (otherwise_back S other k)
      (λ m q. bared_if c e xs m
      ∙ ap (λ y. stmt_at 0 (stmt.If y (map bare_stmt xs) (option_map (map bare_stmt) m))) j
      ∙ ap (λ y. stmt_at 0 (stmt.If w y (option_map (map bare_stmt) m))) l
      ∙ ap (λ y. stmt_at 0 (stmt.If w (map bare_stmt ss) y)) q))))

  -- its word, a name, `in`, the texts and the block, one after another
  for_back : (E : Rule Spot Expr) (S : Rule Spot Stmt) (n : Bytes) (ps : List Piece) (w : Expr) (ss : List Stmt) → Good (spaced (t.Name n))
      → Back Good bare E ps w → Reads S ss
      → Back Good bare_stmt (ForStmt E S) (word s.For ∷ spaced (t.Name n) ∷ word s.In ∷ (ps ++ block (map shown_stmt ss)))
      (stmt_at 0 (stmt.For n w (map bare_stmt ss)))
  for_back E S n ps w ss g b h =
      let qs = block (map shown_stmt ss) in
      then_back Good no_column bare_stmt (Word s.For)
      (λ c. One (at name) >>= λ x. Word s.In >>= λ a. E >>= λ e. Block S >>= λ xs. Pure (stmt_at c (stmt.For x.1 e xs)))
      (word s.For ∷ []) (spaced (t.Name n) ∷ word s.In ∷ (ps ++ qs)) tt _ (word_back Good s.For (word s.For) (goods.words s.For) refl)
      (λ c i. then_back Good value_of bare_stmt (One (at name)) (λ x. Word s.In >>= λ a. E >>= λ e. Block S >>= λ xs. Pure (stmt_at c (stmt.For x.1 e xs)))
      (spaced (t.Name n) ∷ []) (word s.In ∷ (ps ++ qs)) n _ (at_back Good name (spaced (t.Name n)) n g refl)
      (λ x j. then_back Good no_column bare_stmt (Word s.In) (λ a. E >>= λ e. Block S >>= λ xs. Pure (stmt_at c (stmt.For x.1 e xs)))
      (word s.In ∷ []) (ps ++ qs) tt _ (word_back Good s.In (word s.In) (goods.words s.In) refl)
      (λ a k. then_back Good bare bare_stmt E (λ e. Block S >>= λ xs. Pure (stmt_at c (stmt.For x.1 e xs))) ps qs w _ b
      (λ e l. mapped_back Good (map bare_stmt) bare_stmt (Block S) (λ xs. stmt_at c (stmt.For x.1 e xs)) qs (map bare_stmt ss) _ (block_back S ss h)
      (λ xs q. bared_for c x.1 e xs
      ∙ ap (λ y. stmt_at 0 (stmt.For y (bare e) (map bare_stmt xs))) j
      ∙ ap (λ y. stmt_at 0 (stmt.For n y (map bare_stmt xs))) l
      ∙ ap (λ y. stmt_at 0 (stmt.For n w y)) q)))))

  -- the target, the word with as many arguments as it takes, and the semicolon, one after another
  write_back : (E : Rule Spot Expr) (k : Kind) (op : Operation WriteWord) (ps : List Piece) (w : Expr) (es : List Expr)
      → Back Good bare E ps w → write_named k (write_name op.word) ≡ Some op → op.arguments ≡ length es
      → Each (λ e. Back Good bare E (expression e) (bare e)) es
      → Back Good bare_stmt (WriteStmt E) (ended (operation k ps (write_name op.word) (map expression es))) (stmt_at 0 (stmt.Write k w op.word (map bare es)))
  write_back E k op ps w es b h count each =
      let rs = request (write_name op.word) (map expression es) in
      subst (λ qs. Back Good bare_stmt (WriteStmt E) qs (stmt_at 0 (stmt.Write k w op.word (map bare es))))
      (sym (append_assoc (target k ps) rs (closing s.Semicolon ∷ [])))
      (then_back Good bare_target bare_stmt (Targeted E)
      (λ x. One (at (write_of x.kind)) >>= λ o. InParens (Arguments E o.1.arguments) >>= λ as_. Word s.Semicolon >>= λ d. Pure (write_stmt x o.1.word as_.1))
      (target k ps) (rs ++ closing s.Semicolon ∷ []) (k, w) _ (targeted_back Good goods E k ps w b)
      (λ x i. request_then Good goods write_of x.kind op (write_name op.word) E es (goods.writes op.word)
      (ap (λ y. write_named y.0 (write_name op.word)) i ∙ h) count each
      bare_stmt (λ o as_. Word s.Semicolon >>= λ d. Pure (write_stmt x o.word as_)) (closing s.Semicolon ∷ []) _
      (λ as_ j. mapped_back Good no_column bare_stmt (Word s.Semicolon) (λ d. write_stmt x op.word as_) (closing s.Semicolon ∷ []) tt _
      (word_back Good s.Semicolon (closing s.Semicolon) goods.semicolon refl)
      (λ d q. bared_write x.column x.kind x.key op.word as_ ∙ ap (λ (y : Kind × Expr). stmt_at 0 (stmt.Write y.0 y.1 op.word (map bare as_))) i
      ∙ ap (λ ys. stmt_at 0 (stmt.Write k w op.word ys)) j))))

  -- ---- what the grammar derives

  -- what R derives from good tokens is shown so that S reads it back
  pub ReadBack : Rule Spot Stmt → Rule Spot Stmt → Type 0
  ReadBack R S = (ts us : List Spot) (x : Stmt) → R ts x us → Each G ts → Back Good bare_stmt S (shown_stmt x) (bare_stmt x)

  -- another name for the same
  moved : (R : Rule Spot Stmt) (x x' : Stmt) (ps : List Piece) (v : Stmt) → x ≡ x' → shown_stmt x' ≡ ps → bare_stmt x' ≡ v
      → Back Good bare_stmt R ps v → Back Good bare_stmt R (shown_stmt x) (bare_stmt x)
  moved R x x' ps v h k l b =
      subst (λ y. Back Good bare_stmt R (shown_stmt y) (bare_stmt y)) (sym h)
      (subst (λ qs. Back Good bare_stmt R qs (bare_stmt x')) (sym k) (subst (λ u. Back Good bare_stmt R ps u) (sym l) b))

  -- by form: its expression is read back as all are, and its name is a token that was taken
  simple_read : (n : ℕ) → ReadBack (SimpleStmt (Expression n)) (SimpleStmt (Expression n))
  unfolding ReadBack
  simple_read n ts us x (inl r) g =
      let c = r.value in let v = r.second.value.1 in
      let named = keep_one G _ ts r.middle c r.first g in
      let a = r.second.second in
      let e = a.second.value in
      let b = shows Good goods n (expression_fine Good goods n) a.middle a.second.middle e a.second.first
      (keep_one G _ r.second.middle a.middle a.value a.first (keep_one G _ r.middle r.second.middle r.second.value r.second.first named)) in
      moved (SimpleStmt (Expression n)) x (stmt_at c (stmt.Let v e)) _ _ a.second.second.second.is (at_let (stmt_at c (stmt.Let v e)) v e refl)
      (bared_let c v e)
      (within Good bare_stmt (LetStmt (Expression n)) (SimpleStmt (Expression n)) _ _ (λ xs ys y q. inl q)
      (let_back (Expression n) v _ _ (good_name Good goods r.middle r.second.middle r.second.value r.second.first named) b))
  simple_read n ts us x (inr (inl r)) g =
      let c = r.value in let e = r.second.value in
      let b = shows Good goods n (expression_fine Good goods n) r.middle r.second.middle e r.second.first (keep_one G _ ts r.middle c r.first g) in
      moved (SimpleStmt (Expression n)) x (stmt_at c (stmt.Emit e)) _ _ r.second.second.second.is (at_emit (stmt_at c (stmt.Emit e)) e refl) (bared_emit c e)
      (within Good bare_stmt (EmitStmt (Expression n)) (SimpleStmt (Expression n)) _ _ (λ xs ys y q. inr (inl q)) (emit_back (Expression n) _ _ b))
  simple_read n ts us x (inr (inr r)) g =
      let c = r.value in let e = r.second.value in
      let b = shows Good goods n (expression_fine Good goods n) r.middle r.second.middle e r.second.first (keep_one G _ ts r.middle c r.first g) in
      moved (SimpleStmt (Expression n)) x (stmt_at c (stmt.Fail e)) _ _ r.second.second.second.is (at_fail (stmt_at c (stmt.Fail e)) e refl) (bared_fail c e)
      (within Good bare_stmt (FailStmt (Expression n)) (SimpleStmt (Expression n)) _ _ (λ xs ys y q. inr (inr q)) (fail_back (Expression n) _ _ b))

  -- statements within so many levels
  module _ (n : ℕ) (S : Rule Spot Stmt) (fine : ReadBack S S) (keep : (ts us : List Spot) (x : Stmt) → S ts x us → Each G ts → Each G us) where
    -- one after another: what each leaves are good tokens
    all_read : (ts us : List Spot) (ss : List Stmt) → Many S ts ss us → Each G ts → Reads S ss
    unfolding ReadBack
    all_read ts us ss (none ts') g = tt
    all_read ts us ss (more ts' us' vs' x rest r rs) g = (fine ts us' x r g, all_read us' us rest rs (keep ts us' x r g))

    -- the statements of a block are derived behind the opening brace
    block_read : (ts us : List Spot) (ss : List Stmt) → Block S ts ss us → Each G ts → Reads S ss
    block_read ts us ss r g =
        subst (λ xs. Reads S xs) (sym r.second.second.second.is)
        (all_read r.middle r.second.middle r.second.value r.second.first (keep_one G _ ts r.middle r.value r.first g))

    -- there is a block behind `else`, or nothing
    other_read : (ts us : List Spot) (m : Option (List Stmt)) → Optional (Otherwise S) ts m us → Each G ts → ReadsOther S m
    other_read ts us m (inl r) g =
        let y = r.first in
        subst (λ o. ReadsOther S o) (sym r.second.is) (block_read y.middle r.middle r.value y.second (keep_one G _ ts y.middle y.value y.first g))
    other_read ts us m (inr r) g = subst (λ o. ReadsOther S o) (sym r.is) tt

    -- a name alone is the word of a write, and how that write is printed means it again
    write_word : (k : Kind) (x : Token) (op : Operation WriteWord) → write_of k x ≡ Some op → write_named k (write_name op.word) ≡ Some op
    write_word k (t.Name w) op e = write_again k w op e
    write_word k _ op e = absurd (cc)

    -- statements that open a level, of which n are left inside
    abbrev Nested : Rule Spot Stmt
    Nested = NestingStmt (Expression (suc n)) (Expression n) S

    -- the condition and both blocks are derived one behind the other, each from good tokens
    if_read : ReadBack (IfStmt (Expression (suc n)) S) Nested
    unfolding ReadBack
    if_read ts us x r g =
        let c = r.value in
        let e = r.second.value in
        let ss = r.second.second.value in
        let m = r.second.second.second.value in
        let first = keep_one G _ ts r.middle c r.first g in
        let b = shows Good goods (suc n) (expression_fine Good goods (suc n)) r.middle r.second.middle e r.second.first first in
        let second = keep_expression G (suc n) r.middle r.second.middle e r.second.first first in
        let h = block_read r.second.middle r.second.second.middle ss r.second.second.first second in
        let third = keep_block G S keep r.second.middle r.second.second.middle ss r.second.second.first second in
        let k = other_read r.second.second.middle r.second.second.second.middle m r.second.second.second.first third in
        moved Nested x (stmt_at c (stmt.If e ss m)) _ _ r.second.second.second.second.is (at_if (stmt_at c (stmt.If e ss m)) e ss m refl) (bared_if c e ss m)
        (within Good bare_stmt (IfStmt (Expression (suc n)) S) Nested _ _ (λ xs ys y q. inl q) (if_back (Expression (suc n)) S _ _ ss m b h k))

    -- the name, the texts and the block are derived one behind the other, each from good tokens
    for_read : ReadBack (ForStmt (Expression (suc n)) S) Nested
    unfolding ReadBack
    for_read ts us x r g =
        let c = r.value in
        let v = r.second.value.1 in
        let a = r.second.second in
        let e = a.second.value in
        let ss = a.second.second.value in
        let named = keep_one G _ ts r.middle c r.first g in
        let good = good_name Good goods r.middle r.second.middle r.second.value r.second.first named in
        let third = keep_one G _ r.second.middle a.middle a.value a.first (keep_one G _ r.middle r.second.middle r.second.value r.second.first named) in
        let b = shows Good goods (suc n) (expression_fine Good goods (suc n)) a.middle a.second.middle e a.second.first third in
        let h = block_read a.second.middle a.second.second.middle ss a.second.second.first
        (keep_expression G (suc n) a.middle a.second.middle e a.second.first third) in
        moved Nested x (stmt_at c (stmt.For v e ss)) _ _ a.second.second.second.is (at_for (stmt_at c (stmt.For v e ss)) v e ss refl) (bared_for c v e ss)
        (within Good bare_stmt (ForStmt (Expression (suc n)) S) Nested _ _ (λ xs ys y q. inr (inl q)) (for_back (Expression (suc n)) S v _ _ ss good b h))

    -- the target's key and the arguments are read back, and the word means the same write again
    write_read : ReadBack (WriteStmt (Expression n)) Nested
    unfolding ReadBack
    write_read ts us x r g =
        let aim = aimed Good goods n (expression_fine Good goods n) ts r.middle r.value r.first g in
        let op = r.second.value.1 in
        let es = r.second.second.value.1 in
        let behind = keep_targeted G _ (keep_expression G n) ts r.middle r.value r.first g in
        let found = subst (λ (y : Target). write_named y.kind (write_name op.word) ≡ Some op) aim.is
        (write_word r.value.kind r.second.first.item.token op
        (made_at Good goods (write_of r.value.kind) r.middle r.second.middle r.second.value r.second.first)) in
        let i = inside_parens Good goods
        (Arguments (Expression n) op.arguments) r.second.middle r.second.second.middle r.second.second.value r.second.second.first
        (keep_one G _ r.middle r.second.middle r.second.value r.second.first behind) in
        let all = arguments_shown Good goods n (expression_fine Good goods n) op.arguments i.from i.to es i.derived i.good in
        let to = stmt_at aim.column (stmt.Write aim.kind aim.key op.word es) in
        let is : x ≡ to = r.second.second.second.second.is ∙ ap (λ (y : Target). write_stmt y op.word es) aim.is in
        moved Nested x to _ _ is (at_write to aim.kind aim.key op.word es refl) (bared_write aim.column aim.kind aim.key op.word es)
        (within Good bare_stmt (WriteStmt (Expression n)) Nested _ _ (λ xs ys y q. inr (inr q))
        (write_back (Expression n) aim.kind op (expression aim.key) (bare aim.key) es aim.shown found (sym all.length) all.each))

    -- by form
    nesting_read : ReadBack Nested Nested
    unfolding ReadBack
    nesting_read ts us x (inl r) g = if_read ts us x r g
    nesting_read ts us x (inr (inl r)) g = for_read ts us x r g
    nesting_read ts us x (inr (inr r)) g = write_read ts us x r g

  -- a rule that derives as much reads back as much
  wider : (R S : Rule Spot Stmt) → Within R S → ReadBack R R → ReadBack R S
  unfolding ReadBack
  wider R S f h ts us x r g = within Good bare_stmt R S (shown_stmt x) (bare_stmt x) f (h ts us x r g)

  -- level by level: simple ones have expressions alone, and what nests has statements with a level less
  statement_read : (n : ℕ) → ReadBack (Statement n) (Statement n)
  unfolding Statement ReadBack
  statement_read zero ts us x r g = simple_read zero ts us x r g
  statement_read (suc n) ts us x (inl r) g =
      wider (SimpleStmt (Expression (suc n))) (Statement (suc n)) (λ xs ys y q. inl q) (simple_read (suc n)) ts us x r g
  statement_read (suc n) ts us x (inr r) g =
      wider (NestingStmt (Expression (suc n)) (Expression n) (Statement n)) (Statement (suc n)) (λ xs ys y q. inr q)
      (nesting_read n (Statement n) (statement_read n) (keep_statement G n)) ts us x r g

  -- ---- bodies

  -- the first statement and then any number of others, each read back
  bodies : (S : Rule Spot Stmt) (x : Stmt) (ss : List Stmt) → Reads S (x ∷ ss)
      → Back Good without_columns (ListOf S S >>= λ l. Pure (body_of l)) (flat_map shown_stmt (x ∷ ss)) (without_columns (body_of (x, ss)))
  bodies S x ss h =
      let seen : Stmt × List Stmt → Stmt × List Stmt = λ l. (bare_stmt l.0, map bare_stmt l.1) in
      mapped_back Good seen without_columns (ListOf S S) (λ l. body_of l) (flat_map shown_stmt (x ∷ ss)) (bare_stmt x, map bare_stmt ss) _
      (then_back Good bare_stmt seen S (λ a. Many S >>= λ rest. Pure (a, rest)) (shown_stmt x) (flat_map shown_stmt ss) (bare_stmt x) _ h.0
      (λ a i. mapped_back Good (map bare_stmt) seen (Many S) (λ rest. (a, rest)) (flat_map shown_stmt ss) (map bare_stmt ss) _
      (many_back Good bare_stmt S shown_stmt ss h.1)
      (λ rest j. ap (λ y. (y, map bare_stmt rest)) i ∙ ap (λ y. (bare_stmt x, y)) j)))
      (λ l i. ap (λ (p : Stmt × List Stmt). record { stmts = p.0 ∷ p.1 }) i)

  -- a body is one statement or more with all levels left, each of which is read back
  pub body_read : (ts us : List Spot) (b : Body) → BodyRule ts b us → Each G ts
      → Back Good without_columns BodyRule (shown_body b) (without_columns b)
  unfolding ReadBack
  body_read ts us b r g =
      let S = Statement DEEPEST in
      let l = r.first in
      let h : Reads (Statement DEEPEST) (l.value ∷ l.second.value) = (
        statement_read DEEPEST ts l.middle l.value l.first g,
        all_read DEEPEST S (statement_read DEEPEST) (keep_statement G DEEPEST) l.middle l.second.middle l.second.value l.second.first
            (keep_statement G DEEPEST ts l.middle l.value l.first g),
      ) in
      let is : b ≡ body_of (l.value, l.second.value) = r.second.is ∙ ap (λ (p : Stmt × List Stmt). body_of p) l.second.second.is in
      subst (λ x. Back Good without_columns BodyRule (shown_body x) (without_columns x)) (sym is) (bodies S l.value l.second.value h)
