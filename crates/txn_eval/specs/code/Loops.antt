-- What statements do over the code's memory. The lemma `exec_is_steps` of proofs/Ending ties what a body's statements do to
-- `exec`.
use Rattle.std.specs.Prelude.{◌≡◌, List, [], map, refl}
use Rattle.rdt_types.specs.declared.address.Address.{Address}
use Rattle.txn_trees.specs.declared.statement.Stmt.{Stmt}
use Rattle.txn_lang.specs.declared.snaps.Snap.{Snap}
use Rattle.txn_lang.specs.Rules.{Statement, stmt_run}
use Rattle.txn_eval.specs.declared.kept.Kept.{Kept}
use Rattle.txn_eval.specs.code.Buffering.{kept}
use Rattle.txn_eval.specs.Running.{values_of}

-- what each of these statements does, on the values of snaps
abbrev pub stmts_on : List (Address × Snap) → List Stmt → List (Statement Kept)
stmts_on snaps stmts = map (stmt_run (kept (values_of snaps))) stmts

-- of no statement there is nothing to do
stmts_on-example : stmts_on [] [] ≡ []
stmts_on-example = refl
