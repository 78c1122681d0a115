use Rattle.audit_core.proofs.Verdicts.{flaws_are_breaches}
use Rattle.audit_core.proofs.laws.flaws_are_breaches.Goals as goal

pub returns : goal.returns
returns c = flaws_are_breaches
