-- What forms do that the code does in functions of their own: a form with what the expressions in it do, and the rest of
-- the rules of a length, a comparison, a read and a write, once their first items are there. The clauses of `value_of` in
-- src/expression.rt and of `step` in src/going.rt, which name none of these but `expr_here`, tie them to the rules of `txn_lang`.
use Rattle.std.specs.Prelude.{◌≡◌, ℕ, ◌+◌, List, [], map, sum, length, pos, refl}
use Rattle.plain_data.specs.Texts.{Bytes}
use Rattle.rdt_types.specs.declared.address.Address.{Address}
use Rattle.rdt_types.specs.declared.address.Kind.{Kind}
use Rattle.rdt_types.specs.declared.outcome.Item.{Item}
use Rattle.rdt_types.specs.declared.outcome.Item.TheVariants as item
use Rattle.txn_trees.specs.declared.word.Relation.{Relation}
use Rattle.txn_trees.specs.declared.word.ReadWord.{ReadWord}
use Rattle.txn_trees.specs.declared.word.WriteWord.{WriteWord}
use Rattle.txn_trees.specs.declared.expression.Expr.{Expr}
use Rattle.txn_trees.specs.declared.expression.Operand.{Operand}
use Rattle.txn_trees.specs.declared.expression.ExprNode.TheOpen.{ExprNode-F}
use Rattle.txn_trees.specs.declared.statement.Stmt.{Stmt}
use Rattle.txn_trees.specs.declared.statement.StmtNode.TheOpen.{StmtNode-F}
use Rattle.txn_lang.specs.declared.snaps.Snap.{Snap}
use Rattle.txn_lang.specs.Items.{Names, compares, length_of, read_of, text_size, write_of}
use Rattle.txn_lang.specs.Steps.{Memory, Stepping, ◌>>=◌, pure, charge, carry, read_at}
use Rattle.txn_lang.specs.Rules.{Statement, expr_run, operand_run, stmt_run, of_node, of_step, all_values, link, chain, answer_with, write_maybe}
use Rattle.txn_eval.specs.declared.kept.Kept.{Kept}
use Rattle.txn_eval.specs.declared.here.Known.{Known}
use Rattle.txn_eval.specs.declared.here.Here.{Here}
use Rattle.txn_eval.specs.declared.lent.Lent.{Lent}
use Rattle.txn_eval.specs.code.Lending.{shown}
use Rattle.txn_eval.specs.code.Buffering.{kept}
use Rattle.txn_eval.specs.Running.{values_of}

-- the memory of a run on the values of snaps
abbrev pub on : List (Address × Snap) → Memory Kept
on snaps = kept (values_of snaps)

-- a step that charges its tick first
abbrev pub charged : {M A : Type 0} → Stepping M A → Stepping M A
charged step = do
  _ ← charge 1
  step

-- what a write adds to the load
abbrev pub write_load : Bytes → List Item → ℕ
write_load key is = 8 + length key + sum (map text_size is)

-- what a statement does on what is known
abbrev pub stmt_on : Known → Stmt → Statement Kept
stmt_on known stmt = stmt_run (on known.snaps.now) stmt

module _ (here : Here) where
  -- what an expression does here, and what expressions do in order
  abbrev pub expr_here : Expr → Stepping Kept Item
  expr_here e = expr_run (on here.snaps.now) e here.names.now

  abbrev pub exprs_here : List Expr → Stepping Kept (List Item)
  exprs_here es = all_values [] (map (expr_run (on here.snaps.now)) es) here.names.now

  -- what further operands of a chain do, one and all
  abbrev pub link_here : Operand → Item → Stepping Kept Item
  link_here operand i = let o = operand_run (on here.snaps.now) operand in link o.0 i o.1 here.names.now

  abbrev pub chain_here : List Operand → Item → Stepping Kept Item
  chain_here operands i = chain i (map (operand_run (on here.snaps.now)) operands) here.names.now

  -- what forms of expressions do
  abbrev pub texts_here : List Expr → Stepping Kept Item
  texts_here es = of_node (on here.snaps.now) (ExprNode-F.Texts (map (expr_run (on here.snaps.now)) es)) here.names.now

  abbrev pub str_here : Expr → Stepping Kept Item
  str_here e = of_node (on here.snaps.now) (ExprNode-F.Str (expr_run (on here.snaps.now) e)) here.names.now

  abbrev pub negative_here : Expr → Stepping Kept Item
  negative_here e = of_node (on here.snaps.now) (ExprNode-F.Negative (expr_run (on here.snaps.now) e)) here.names.now

  abbrev pub not_here : Expr → Stepping Kept Item
  not_here e = of_node (on here.snaps.now) (ExprNode-F.Not (expr_run (on here.snaps.now) e)) here.names.now

  -- the rest of the rule of `len`, once its tick is charged
  abbrev pub length_here : Expr → Stepping Kept Item
  length_here e = do
    i ← expr_here e
    pure (item.Int (pos (length_of i)))

  -- that of a comparison, once its left item is there
  abbrev pub beside_here : Lent → Relation → Expr → Stepping Kept Item
  beside_here left relation e = do
    right ← expr_here e
    pure (item.Bool (compares relation (shown left) right))

  -- that of a read, once its arguments are there, and once its address is
  abbrev pub answered_here : Address → ReadWord → List Item → Stepping Kept Item
  answered_here address word is = do
    i ← read_at (on here.snaps.now) (read_of address.kind word is) address
    answer_with i

  abbrev pub read_here : Address → ReadWord → List Expr → Stepping Kept Item
  read_here address word es = do
    is ← exprs_here es
    answered_here address word is

  -- that of a write, once its arguments are there, and once its address is
  abbrev pub written_here : Address → WriteWord → List Item → Stepping Kept (Unit {0})
  written_here address word is = do
    _ ← carry (write_load address.key is)
    write_maybe (on here.snaps.now) address (write_of address.kind word is)

  abbrev pub write_here : Address → WriteWord → List Expr → Stepping Kept Names
  write_here address word es = do
    is ← exprs_here es
    _ ← written_here address word is
    pure here.names.now

  -- what statements do that bind no name, behind their tick
  abbrev pub emit_here : Expr → Stepping Kept Names
  emit_here e = of_step (on here.snaps.now) (StmtNode-F.Emit e) here.names.now

  abbrev pub fail_here : Expr → Stepping Kept Names
  fail_here e = of_step (on here.snaps.now) (StmtNode-F.Fail e) here.names.now

  abbrev pub write_value_here : Kind → Expr → WriteWord → List Expr → Stepping Kept Names
  write_value_here kind key word es = of_step (on here.snaps.now) (StmtNode-F.Write kind key word es) here.names.now

  -- of no expression there is nothing to do
  exprs_here-example : exprs_here [] ≡ pure []
  exprs_here-example = refl
