-- How a run over deltas ends.
use Rattle.std.proofs.Common.{◌≡◌, List, []}
use Rattle.rdt_types.specs.declared.address.Address.{Address}
use Rattle.txn_trees.specs.declared.statement.Body.{Body}
use Rattle.txn_lang.specs.declared.snaps.Snap.{Snap}
use Rattle.txn_lang.specs.Rules.{all_steps}
use Rattle.txn_lang.specs.Execution.{exec, begun}
use Rattle.txn_eval.specs.Running.{values_of}
use Rattle.txn_eval.specs.code.Buffering.{kept_ended, nothing_kept, exec_over}
use Rattle.txn_eval.specs.code.Loops.{stmts_on}
use Rattle.txn_eval.proofs.Buffered.{exec_is_over}

-- the run of a body is that of its statements over deltas
pub exec_is_steps : (b : Body) (snaps : List (Address × Snap))
    → exec b (values_of snaps) ≡ kept_ended (all_steps (stmts_on snaps b.stmts) [] (begun nothing_kept))
unfolding exec_over
exec_is_steps b snaps = exec_is_over b (values_of snaps)
