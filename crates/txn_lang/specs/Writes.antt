-- Bodies that write.
use Rattle.std.specs.Prelude.{◌≡◌, ℕ, List, [], ◌∷◌, map, Option, Some, None, codes, pos, true}
use Rattle.std.specs.Option.{unwrap_or, option_or}
use Rattle.std.proofs.Common.{ap, ◌∙◌}
use Rattle.rdt_types.specs.declared.address.Kind.TheVariants as kind
use Rattle.txn_trees.specs.declared.word.WriteWord.TheVariants as write_word
use Rattle.txn_trees.specs.declared.statement.Stmt.{Stmt, fold-Stmt}
use Rattle.txn_trees.specs.declared.statement.StmtNode.{out-StmtNode}
use Rattle.txn_trees.specs.declared.statement.StmtNode.TheVariants as stmt
use Rattle.txn_trees.specs.declared.statement.StmtNode.TheOpen.{StmtNode-F, Stmt-F}
use Rattle.txn_trees.specs.declared.statement.StmtNode.TheFolds.{fold_out-Stmt, fold_out-StmtNode}
use Rattle.txn_trees.specs.declared.statement.Body.{Body}
use Rattle.txn_grammar.specs.Trees.{body_of, number_expr, text_expr, truth_expr, stmt_at}

-- the first of some columns
abbrev pub first_of : List (Option ℕ) → Option ℕ
first_of [] = None
first_of (column ∷ columns) = option_or column (first_of columns)

-- the column of the first write in a statement at a column
abbrev pub write_in : StmtNode-F (ℕ → Option ℕ) (Option ℕ) → ℕ → Option ℕ
write_in (StmtNode-F.If e then_do else_do) column = option_or (first_of then_do) (first_of (unwrap_or else_do []))
write_in (StmtNode-F.For x e inner) column = first_of inner
write_in (StmtNode-F.Write k key word es) column = Some column
write_in _ column = None

-- the column of the first write of a statement
abbrev pub write_at : Stmt-F (ℕ → Option ℕ) (Option ℕ) → Option ℕ
write_at s = s.node s.column

-- the column of the first write in a statement, if it writes
abbrev pub first_write_in : Stmt → Option ℕ
first_write_in = fold-Stmt (ℕ → Option ℕ) (Option ℕ) write_in write_at

-- the column of a body's first write, if it has one
abbrev pub first_write : Body → Option ℕ
first_write body = first_of (map first_write_in body.stmts)

-- ---- the body `emit 1; bool("x").put(true);`

-- its first statement
abbrev emit_one : Stmt
emit_one = stmt_at 1 (stmt.Emit (number_expr (6, pos 1)))

-- and its second, at column 9
abbrev put_true : Stmt
put_true = stmt_at 9 (stmt.Write kind.Bool (text_expr (14, codes "x")) write_word.Put (truth_expr (23, true) ∷ []))

-- an `emit` is no write
emit_one-writes-none : first_write_in emit_one ≡ None
unfolding out-StmtNode denote.Hole.Carrier.out
emit_one-writes-none =
    fold_out-Stmt (ℕ → Option ℕ) (Option ℕ) write_in write_at emit_one
    ∙ ap (λ (n : ℕ → Option ℕ). n 1) (fold_out-StmtNode (ℕ → Option ℕ) (Option ℕ) write_in write_at (stmt.Emit (number_expr (6, pos 1))))

-- a `put` is
put_true-writes : first_write_in put_true ≡ Some 9
unfolding out-StmtNode denote.Hole.Carrier.out
put_true-writes =
    fold_out-Stmt (ℕ → Option ℕ) (Option ℕ) write_in write_at put_true
    ∙ ap (λ (n : ℕ → Option ℕ). n 9) (fold_out-StmtNode (ℕ → Option ℕ) (Option ℕ) write_in write_at
    (stmt.Write kind.Bool (text_expr (14, codes "x")) write_word.Put (truth_expr (23, true) ∷ [])))

-- and so the body's first write is the second statement
first_write-example : first_write (body_of (emit_one, put_true ∷ [])) ≡ Some 9
first_write-example =
    ap (λ c. option_or c (option_or (first_write_in put_true) None)) emit_one-writes-none
    ∙ ap (λ c. option_or c None) put_true-writes
