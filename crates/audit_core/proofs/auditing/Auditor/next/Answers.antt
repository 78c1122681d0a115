use Rattle.audit_core.proofs.Behind.{found-broken}
use Rattle.audit_core.proofs.auditing.Auditor.next.Goals as goal

-- the first with a flaw is the one that was found before
pub returns-in-Broken : goal.returns-in-Broken
returns-in-Broken c = λ before was. found-broken before c.args.commit.now c.args.so_far c.in-Broken.field-0 c.in-Broken.field-1 c.in-Broken.is _ _ was
