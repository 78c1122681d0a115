-- The forms of the language, a row each: a text, and the tree that it is.
use Rattle.std.specs.Prelude.{ℕ, List, [], ◌∷◌, ◌++◌, map, codes, pos, true, Option, Some, None}
use Rattle.plain_data.specs.Texts.{Bytes}
use Rattle.txn_trees.specs.declared.expression.Expr.{Expr}
use Rattle.txn_trees.specs.declared.expression.ExprNode.TheVariants as node
use Rattle.txn_trees.specs.declared.statement.Stmt.{Stmt}
use Rattle.txn_trees.specs.declared.statement.StmtNode.TheVariants as stmt
use Rattle.txn_trees.specs.declared.statement.Body.{Body}
use Rattle.txn_trees.specs.declared.word.Operator.TheVariants as operator
use Rattle.txn_trees.specs.declared.word.Relation.TheVariants as relation
use Rattle.txn_grammar.specs.Parsed.{parsed}
use Rattle.txn_grammar.specs.Trees.{expr, number_expr, text_expr, truth_expr, name_expr, operand, stmt_at, body_of}
use Rattle.language_lines.specs.Tables.{Holds}
use Rattle.language_lines.specs.Operations.{writes, reads, body_of_write, body_of_read}

-- the number 1, at a column
abbrev one_at : ℕ → Expr
one_at column = number_expr (column, pos 1)

-- a body that emits an expression, which stands at column 6
abbrev emits : Expr → Body
emits e = body_of (stmt_at 1 (stmt.Emit e), [])

-- an `emit 1;` at a column
abbrev emit_at : ℕ → ℕ → Stmt
emit_at column value = stmt_at column (stmt.Emit (one_at value))

-- statements
abbrev pub statements : List (Bytes × Body)
statements =
    (codes "let x = 1;", body_of (stmt_at 1 (stmt.Let (codes "x") (one_at 9)), []))
    ∷ (codes "emit 1; emit 1;", body_of (emit_at 1 6, emit_at 9 14 ∷ []))
    ∷ (codes "fail \"a\";", body_of (stmt_at 1 (stmt.Fail (text_expr (6, codes "a"))), []))
    ∷ (codes "if true { }", body_of (stmt_at 1 (stmt.If (truth_expr (4, true)) [] None), []))
    ∷ (
      codes "if true { emit 1; } else { emit 1; }",
      body_of (stmt_at 1 (stmt.If (truth_expr (4, true)) (emit_at 11 16 ∷ []) (Some (emit_at 28 33 ∷ []))), []),
    )
    ∷ (codes "for x in [] { emit 1; }", body_of (stmt_at 1 (stmt.For (codes "x") (expr 10 (node.Texts [])) (emit_at 15 20 ∷ [])), []))
    ∷ []

-- expressions
abbrev pub expressions : List (Bytes × Body)
expressions =
    (codes "emit 1;", emits (one_at 6))
    ∷ (codes "emit \"a\";", emits (text_expr (6, codes "a")))
    ∷ (codes "emit true;", emits (truth_expr (6, true)))
    ∷ (codes "emit x;", emits (name_expr (6, codes "x")))
    ∷ (codes "emit (1);", emits (one_at 6))
    ∷ (codes "emit len([]);", emits (expr 6 (node.Len (expr 10 (node.Texts [])))))
    ∷ (codes "emit str(1);", emits (expr 6 (node.Str (one_at 10))))
    ∷ (codes "emit [1, 1];", emits (expr 6 (node.Texts (one_at 7 ∷ one_at 10 ∷ []))))
    ∷ (codes "emit -1;", emits (expr 6 (node.Negative (one_at 7))))
    ∷ (codes "emit not true;", emits (expr 6 (node.Not (truth_expr (10, true)))))
    ∷ (codes "emit 1 == 1;", emits (expr 6 (node.Compare (one_at 6) relation.Equal (one_at 11))))
    ∷ (codes "emit 1 != 1;", emits (expr 6 (node.Compare (one_at 6) relation.Unequal (one_at 11))))
    ∷ (codes "emit 1 < 1;", emits (expr 6 (node.Compare (one_at 6) relation.Less (one_at 10))))
    ∷ (codes "emit 1 <= 1;", emits (expr 6 (node.Compare (one_at 6) relation.AtMost (one_at 11))))
    ∷ (codes "emit 1 > 1;", emits (expr 6 (node.Compare (one_at 6) relation.Greater (one_at 10))))
    ∷ (codes "emit 1 >= 1;", emits (expr 6 (node.Compare (one_at 6) relation.AtLeast (one_at 11))))
    ∷ (codes "emit 1 or 1;", emits (expr 6 (node.Chain (one_at 6) (operand operator.Or (one_at 11) ∷ []))))
    ∷ (codes "emit 1 and 1;", emits (expr 6 (node.Chain (one_at 6) (operand operator.And (one_at 12) ∷ []))))
    ∷ (codes "emit 1 + 1;", emits (expr 6 (node.Chain (one_at 6) (operand operator.Plus (one_at 10) ∷ []))))
    ∷ (codes "emit 1 - 1;", emits (expr 6 (node.Chain (one_at 6) (operand operator.Minus (one_at 10) ∷ []))))
    ∷ (codes "emit 1 * 1;", emits (expr 6 (node.Chain (one_at 6) (operand operator.Times (one_at 10) ∷ []))))
    ∷ []

-- each binds looser than the next: `or`, `and`, `not`, a comparison, `+` and `-`, `*`, and a `-` in front
abbrev pub ranks : List (Bytes × Body)
ranks = (
  codes "emit x or x and x;",
  emits (expr 6 (node.Chain (name_expr (6, codes "x")) (operand operator.Or
      (expr 11 (node.Chain (name_expr (11, codes "x")) (operand operator.And (name_expr (17, codes "x")) ∷ []))) ∷ []))),
)
    ∷ (
      codes "emit not x and x;",
      emits (expr 6 (node.Chain (expr 6 (node.Not (name_expr (10, codes "x")))) (operand operator.And (name_expr (16, codes "x")) ∷ []))),
    )
    ∷ (codes "emit not 1 < 1;", emits (expr 6 (node.Not (expr 10 (node.Compare (one_at 10) relation.Less (one_at 14))))))
    ∷ (
      codes "emit 1 < 1 + 1;",
      emits (expr 6 (node.Compare (one_at 6) relation.Less (expr 10 (node.Chain (one_at 10) (operand operator.Plus (one_at 14) ∷ []))))),
    )
    ∷ (codes "emit 1 + 1 - 1;", emits (expr 6 (node.Chain (one_at 6) (operand operator.Plus (one_at 10) ∷ operand operator.Minus (one_at 14) ∷ []))))
    ∷ (
      codes "emit 1 + 1 * 1;",
      emits (expr 6 (node.Chain (one_at 6) (operand operator.Plus (expr 10 (node.Chain (one_at 10) (operand operator.Times (one_at 14) ∷ []))) ∷ []))),
    )
    ∷ (codes "emit -1 * 1;", emits (expr 6 (node.Chain (expr 6 (node.Negative (one_at 7))) (operand operator.Times (one_at 11) ∷ []))))
    ∷ []

-- a row that is read
abbrev pub read_as : Bytes × Body → Bytes × Option Body
read_as (text, body) = (text, Some body)

-- each text is its tree, and so is each write and each read
abbrev pub FormsAreRead : Type 0
FormsAreRead = Holds parsed (map read_as (statements ++ expressions ++ ranks))

-- each write
abbrev pub WritesAreRead : Type 0
WritesAreRead = Holds parsed (map (λ w. (w.text, Some (body_of_write w))) writes)

-- each read
abbrev pub ReadsAreRead : Type 0
ReadsAreRead = Holds parsed (map (λ r. (r.text, Some (body_of_read r))) reads)

-- what a reader might also write, and what is no body
abbrev pub OthersAreRefused : Type 0
OthersAreRefused =
    Holds parsed
    (map (λ z. (z, None))
    ([]
    ∷ codes "emit 1"
    ∷ codes "let if = 1;"
    ∷ codes "x = 1;"
    ∷ codes "emit 1 < 1 < 1;"
    ∷ codes "emit --;"
    ∷ codes "counter(\"k\").remove(1);"
    ∷ codes "set(\"k\").add();"
    ∷ codes "set(\"k\").add(\"a\", \"b\");"
    ∷ codes "emit set(\"k\").add(\"a\");"
    ∷ codes "peak(\"k\").put(1);"
    ∷ codes "peak(\"k\").raise();"
    ∷ codes "emit peak(\"k\").over();"
    ∷ codes "let peak = 1;"
    ∷ []))
