use Rattle.std.proofs.Common.{sym, ap, ◌∙◌}
use Rattle.audit_core.specs.Reports.{report_of}
use Rattle.diamond_cli.proofs.audited.audit_read.Goals as goal

-- the commits that were handed to the audit are those of the file
pub returns-clause-read : goal.returns-clause-read
returns-clause-read g c = record {
  kept = c.in_ok-auditing.auditing;
  read = c.in_ok-auditing.ensures.kept;
  holds = c.in_ok-finish.ensures.verdict;
  text_is = c.in_ok-finish.ensures.text ∙ ap (report_of c.in_ok-auditing.auditing c.in_ok-finish.field-0.verdict) (sym c.requires);
}
