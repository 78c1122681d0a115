use Rattle.std.proofs.Common.{ℕ, List, refl, subst, ◌∙◌}
use Rattle.std.proofs.lemmas.Result.{err_from_is_err_and}
use Rattle.script_runner.specs.Script.{writing}
use Rattle.audit_core.specs.declared.growing.Audited.{Audited}
use Rattle.diamond_cli.specs.Filed.{storing}
use Rattle.diamond_cli.specs.Serving.{IsTried}
use Rattle.diamond_cli.proofs.Auditing.{unread-by}
use Rattle.diamond_cli.proofs.audited.audit_kept.Goals as goal

-- the file was not read, or memory was wanting
pub returns-in_err-audited-clause-unread : goal.returns-in_err-audited-clause-unread
returns-in_err-audited-clause-unread g c =
    let p = err_from_is_err_and c.from_residual.result c.from_residual.ensures.1 in
    let out = c.args.sink.now in
    let failed = c.in_err-audited.ensures in
    rw (p.1, p.2)
    (unread-by (storing g.D.Disk c.args.disk.now c.audit_read.new.disk) (writing g.W.Sink out out) Audited
    c.in_err-audited.field-0.0 failed.refused failed.same failed.counted (refl, refl))

-- its commits were audited, and the report was tried
pub returns-clause-read : goal.returns-clause-read
returns-clause-read g c =
    let came = c.in_ok-audited.ensures.read in
    record {
      audited = record {
        kept = came.kept;
        read = came.read;
        reported = record {
          verdict = c.in_ok-audited.audited.verdict;
          holds = came.holds;
          done = c.tell-told.result;
          tried = subst (λ (text : List ℕ). IsTried text c.tell-told.result (writing g.W.Sink c.args.sink.now c.tell-told.new.sink))
              (c.as_slice.ensures ∙ came.text_is) c.tell-told.ensures;
          status_is = c.status_of.ensures;
        };
      };
      spared = c.in_ok-audited.ensures.same;
      counted = c.in_ok-audited.ensures.counted;
    }
