use Rattle.std.proofs.Common.{ap, ◌∙◌}
use Rattle.txn_lang.specs.declared.checked.Checked.{Checked}
use Rattle.txn_lang.specs.Execution.{exec}
use Rattle.txn_eval.specs.Running.{values_of}
use Rattle.remote_service.proofs.Handed.{comes-to-append}
use Rattle.remote_service.proofs.service.Service.handed_on.Goals as goal

-- each shard in which something was observed has its front
pub ready-requires : goal.ready-requires
ready-requires c = record {
  next = comes-to-append c.as_slice.result.now (record {
    body = c.begin-attempt.result.body;
    shards = c.begin-attempt.result.shards;
    snaps = c.args.ran.snaps;
    fronts = c.in_ok-attempt.field-0;
    shards_in_range = c.begin-attempt.result.shards_in_range;
  }) c.args.ran.run
      (ap (λ (b : Checked). exec b.body (values_of c.args.ran.snaps)) c.begin-attempt.ensures.body ∙ c.requires.runs) c.in_ok-attempt.ensures;
}
