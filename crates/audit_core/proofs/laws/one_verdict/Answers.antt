use Rattle.audit_core.proofs.Verdicts.{verdicts_are_one}
use Rattle.audit_core.proofs.laws.one_verdict.Goals as goal

pub returns : goal.returns
returns c = verdicts_are_one
