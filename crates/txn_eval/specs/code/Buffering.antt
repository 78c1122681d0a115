-- The code's memory: deltas in place of operations. The lemma `exec_is_over` of proofs/Buffered ties a run over it to `exec`.
use Rattle.std.specs.Prelude.{[], Option, Some, None}
use Rattle.rdt_types.specs.declared.address.Address.{Address}
use Rattle.rdt_types.specs.declared.operation.WriteOp.{WriteOp}
use Rattle.rdt_types.specs.declared.outcome.Item.{Item}
use Rattle.rdt_types.specs.declared.outcome.Outcome.TheVariants as outcome
use Rattle.rdt_types.specs.Deltas.{delta_of}
use Rattle.rdt_types.specs.DeltaMaps.{with_delta}
use Rattle.conflict_table.specs.declared.observation.Obs.{Obs}
use Rattle.txn_trees.specs.declared.statement.Body.{Body}
use Rattle.write_buffer.specs.declared.asked.Asked.{Asked}
use Rattle.write_buffer.specs.declared.asked.Asked.TheVariants.{Answered, Need}
use Rattle.write_buffer.specs.Asking.{asked}
use Rattle.txn_lang.specs.declared.progress.Stop.TheVariants as stop
use Rattle.txn_lang.specs.States.{PartialState}
use Rattle.txn_lang.specs.Own.{with_seen}
use Rattle.txn_lang.specs.Steps.{Memory, Step, stopped, gives}
use Rattle.txn_lang.specs.Items.{Names}
use Rattle.txn_lang.specs.Rules.{body_run}
use Rattle.txn_lang.specs.Execution.{Ran, need, done, begun, run_with}
use Rattle.txn_eval.specs.declared.kept.Kept.{Kept}

-- what is kept after a read that observed something, or nothing
abbrev pub noted : Address → Kept → Option Obs → Kept
noted a k None = k
noted a k (Some o) = record k { observations = with_seen k.observations (record { address = a; obs = o }) }

-- what a read answers, with what is kept after it
abbrev pub answered_by : Address → Kept → Asked → Option (Item × Kept)
answered_by a k (Answered i seen) = Some (i, noted a k seen)
answered_by a k Need = None

abbrev pub kept_write : Address → WriteOp → Kept → Kept
kept_write a w k = record k { buffer = with_delta k.buffer a (delta_of w) }

abbrev pub kept : PartialState → Memory Kept
kept s = record { read = λ r a k. answered_by a k (asked k.buffer a r (s a)); write = kept_write }

abbrev pub nothing_kept : Kept
nothing_kept = record { buffer = []; observations = [] }

-- how a run ends
abbrev pub kept_ended : Step Kept Names → Ran
kept_ended (gives names p) = done (record { outcome = outcome.Ok p.emitted; deltas = p.memory.buffer; observations = p.memory.observations })
kept_ended (stopped (stop.Need a) p) = need a
kept_ended (stopped (stop.Fail t) p) = done (run_with p.memory.observations (outcome.Fail t))
kept_ended (stopped stop.Spent p) = done (run_with p.memory.observations outcome.Spent)
kept_ended (stopped _ p) = done (run_with p.memory.observations outcome.Big)

unfoldable pub exec_over : Body → PartialState → Ran
exec_over b s = kept_ended (body_run (kept s) b (begun nothing_kept))
