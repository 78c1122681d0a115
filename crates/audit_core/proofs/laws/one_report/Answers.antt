use Rattle.audit_core.proofs.Reports.{one_report}
use Rattle.audit_core.proofs.laws.one_report.Goals as goal

pub returns : goal.returns
returns c = one_report
