use Rattle.diamond_cli.proofs.Auditing.{audits-read, audits-unread}
use Rattle.diamond_cli.proofs.audited.audit_file.Goals as goal

-- the file was read
pub returns-in-Ok-clause-audits : goal.returns-in-Ok-clause-audits
returns-in-Ok-clause-audits g c = audits-read _ _ _ _ c.in-Ok.ensures.read

-- it was not
pub returns-in-Err-clause-audits : goal.returns-in-Err-clause-audits
returns-in-Err-clause-audits g c = rw (c.status_of.ensures) (audits-unread _ _ _ _ c.in-Err.ensures.unread)
