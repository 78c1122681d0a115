-- A journal of two commits, worked from their text: the first two of client 7, each with the body `emit 1;`.
use Rattle.std.specs.Prelude.{◌≡◌, ℕ, List, [], ◌∷◌, Option, Some, codes, pos, Ok, refl}
use Rattle.std.proofs.Common.{ap, ◌∙◌}
use Rattle.rdt_types.specs.declared.outcome.Item.TheVariants as item
use Rattle.rdt_types.specs.declared.outcome.Outcome.TheVariants as outcome
use Rattle.predictive_parsing.specs.Reading.{one, turns, many, list, optional, whole}
use Rattle.txn_trees.specs.declared.expression.Expr.{Expr}
use Rattle.txn_trees.specs.declared.expression.ExprNode.{out-ExprNode}
use Rattle.txn_trees.specs.declared.expression.ExprNode.TheVariants as node
use Rattle.txn_trees.specs.declared.expression.ExprNode.TheOpen.{ExprNode-F}
use Rattle.txn_trees.specs.declared.expression.ExprNode.TheFolds.{fold_out-Expr, fold_out-ExprNode}
use Rattle.txn_trees.specs.declared.statement.Body.{Body}
use Rattle.txn_trees.specs.declared.statement.Stmt.{Stmt}
use Rattle.txn_trees.specs.declared.statement.StmtNode.{out-StmtNode}
use Rattle.txn_trees.specs.declared.statement.StmtNode.TheVariants as stmt
use Rattle.txn_trees.specs.declared.statement.StmtNode.TheFolds.{fold_out-Stmt, fold_out-StmtNode}
use Rattle.txn_trees.specs.declared.word.Operator.{Operator}
use Rattle.txn_grammar.specs.Characters.{Text}
use Rattle.txn_grammar.specs.Spellings.{same_symbol, reserved_word, mark}
use Rattle.txn_grammar.specs.Numbers.{small_value, number_value}
use Rattle.txn_grammar.specs.Lexer.{word_token, word_at, number_at, mark_at, token_at, lex}
use Rattle.txn_grammar.specs.Trees.{body_of, number_expr, stmt_at}
use Rattle.txn_grammar.specs.Parsed.{parsed}
use Rattle.txn_grammar.specs.code.Reader.{word, number_leaf, a_leaf, further, chain, other_side, comparison, comparison_of, expression_of}
use Rattle.txn_grammar.specs.code.Reader.{opened, unary_of, negation_of, unary, expression, emit_stmt, simple_stmt, begins_statement, statement, body}
use Rattle.txn_lang.specs.declared.commit.Commit.{Commit}
use Rattle.txn_lang.specs.declared.run.Run.{Run}
use Rattle.txn_lang.specs.States.{Journal, PartialState, known, left_by}
use Rattle.txn_lang.specs.Steps.{◌>>=◌, pure, charge}
use Rattle.txn_lang.specs.Items.{Names}
use Rattle.txn_lang.specs.Types as types
use Rattle.txn_lang.specs.declared.item_type.Type.{«Type» as ItemType}
use Rattle.txn_lang.specs.declared.item_type.Type.TheVariants as type
use Rattle.txn_lang.specs.Typing as typing
use Rattle.txn_lang.specs.Typing.{Judged, Typed, judge, judge_node, judge_expr, judge_operand, judge_step, judge_stmt, names_after, typed, in_order}
use Rattle.txn_lang.specs.Rules.{Expression, Statement, of_node, of_expr, of_operand, of_step, of_stmt, expr_run, stmt_run, all_steps, emit_item}
use Rattle.txn_lang.specs.Execution.{Own, own_memory, ended, exec, done, begun, nothing_yet}
use Rattle.txn_lang.specs.Tree.{if_accepted, if_typed, tree}
use Rattle.txn_lang.specs.Journals.{IsRunAfter, IsLegal}

abbrev emit_one : Text
emit_one = codes "emit 1;"

-- ---- its tree

abbrev the_expr : Expr
the_expr = number_expr (6, pos 1)

abbrev the_stmt : Stmt
the_stmt = stmt_at 1 (stmt.Emit the_expr)

abbrev the_body : Body
the_body = body_of (the_stmt, [])

-- what the text is
parsed-example : parsed emit_one ≡ Some the_body
unfolding parsed lex token_at word_at word_token reserved_word number_at number_value small_value mark_at mark whole body list statement
    begins_statement many turns simple_stmt emit_stmt word same_symbol expression expression_of unary unary_of opened negation_of comparison_of
    comparison other_side chain further optional one a_leaf number_leaf
parsed-example = refl

-- a number is an int, and an `emit` binds no name
typed-example : typed the_expr ≡ record { column = 6; judged = λ names. Ok type.Int }
unfolding out-ExprNode denote.Hole.Carrier.out
typed-example =
    fold_out-Expr (ℕ → types.Names → Judged ItemType) Typed (Operator × Typed) judge_node judge_expr judge_operand the_expr
    ∙ ap (λ (n : ℕ → types.Names → Judged ItemType). record { column = 6; judged = n 6 })
    (fold_out-ExprNode (ℕ → types.Names → Judged ItemType) Typed (Operator × Typed) judge_node judge_expr judge_operand (node.Number (pos 1)))

accepted-example : names_after the_stmt ≡ (λ names. Ok names)
unfolding out-StmtNode denote.Hole.Carrier.out
accepted-example =
    fold_out-Stmt (types.Names → Judged types.Names) (types.Names → Judged types.Names) judge_step judge_stmt the_stmt
    ∙ fold_out-StmtNode (types.Names → Judged types.Names) (types.Names → Judged types.Names) judge_step judge_stmt (stmt.Emit the_expr)
    ∙ ap {B = types.Names → Judged types.Names} (λ t names. typing.and_then (t.judged names) (λ _. Ok names)) typed-example

-- so the body may run
tree-example : tree emit_one ≡ Some the_body
unfolding tree
tree-example = ap if_typed parsed-example ∙ ap (λ f. if_accepted the_body (in_order (f ∷ []) [])) accepted-example

-- ---- its run

-- a tick is charged for the statement and one for the number, and the number is emitted, whatever the state
number-run : (s : PartialState) → expr_run (own_memory s) the_expr ≡ of_node (own_memory s) (ExprNode-F.Number (pos 1))
unfolding out-ExprNode denote.Hole.Carrier.out
number-run s =
    fold_out-Expr (Expression Own) (Expression Own) (Operator × Expression Own) (of_node (own_memory s)) of_expr of_operand the_expr
    ∙ fold_out-ExprNode (Expression Own) (Expression Own) (Operator × Expression Own) (of_node (own_memory s)) of_expr of_operand (node.Number (pos 1))

abbrev emits : Expression Own → Statement Own
emits e names = do
  _ ← charge 1
  i ← e names
  _ ← emit_item i
  pure names

stmt-run : (s : PartialState) → stmt_run (own_memory s) the_stmt ≡ emits (of_node (own_memory s) (ExprNode-F.Number (pos 1)))
unfolding out-StmtNode denote.Hole.Carrier.out
stmt-run s =
    fold_out-Stmt (Statement Own) (Statement Own) (of_step (own_memory s)) of_stmt the_stmt
    ∙ ap (λ (n : Statement Own). of_stmt (record { column = 1; node = n }))
    (fold_out-StmtNode (Statement Own) (Statement Own) (of_step (own_memory s)) of_stmt (stmt.Emit the_expr))
    ∙ ap emits (number-run s)

abbrev the_run : Run
the_run = record { outcome = outcome.Ok (item.Int (pos 1) ∷ []); deltas = []; observations = [] }

exec-example : (s : PartialState) → exec the_body s ≡ done the_run
unfolding exec
exec-example s = ap (λ f. ended (all_steps (f ∷ []) [] (begun nothing_yet))) (stmt-run s)

-- ---- the journal

abbrev emitted : ℕ → Commit
emitted n = record { number = n; client = 7; seq = n; body = emit_one; outcome = outcome.Ok (item.Int (pos 1) ∷ []); deltas = [] }

emitted-is-run : (before : Journal) (n : ℕ) → IsRunAfter before (emitted n)
emitted-is-run before n = record {
  body = the_body;
  run = the_run;
  read = tree-example;
  ran = exec-example (known (left_by before));
  outcome = refl;
  deltas = refl;
}

-- the numbers rise from 1, and so does the client's count
IsLegal-of-two : IsLegal 0 (emitted 1 ∷ emitted 2 ∷ [])
IsLegal-of-two = (
  record { number = refl; seq = refl; runs = λ behind. emitted-is-run [] 1 },
  (record { number = refl; seq = refl; runs = λ behind. emitted-is-run (emitted 1 ∷ []) 2 }, tt),
)
