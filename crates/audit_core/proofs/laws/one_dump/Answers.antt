use Rattle.audit_core.proofs.Dumps.{one_dump}
use Rattle.audit_core.proofs.laws.one_dump.Goals as goal

pub returns : goal.returns
returns c = one_dump
