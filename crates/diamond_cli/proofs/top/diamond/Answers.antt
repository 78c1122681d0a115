use Rattle.std.proofs.Common.{refl, sym, ◌∙◌}
use Rattle.std.specs.Prelude.{None, Some}
use Rattle.cli_words.specs.Forms.{texts}
use Rattle.script_runner.proofs.Promises.{unstarted}
use Rattle.load_runner.proofs.Told.{loads-unmade}
use Rattle.diamond_cli.proofs.Asked.{plan-asks, runs-something, serves-something, files-something, audits-something, remotes-something, loads-something}
use Rattle.diamond_cli.proofs.Asked.{with-file, other-command, memory-no-file}
use Rattle.diamond_cli.proofs.Asked.{spelled-wanting, unread-nothing, unread-statuses}
use Rattle.diamond_cli.proofs.Auditing.{no-memory, audits-unread}
use Rattle.diamond_cli.proofs.Reached.{unreached}
use Rattle.diamond_cli.proofs.Recovered.{refused-serves}
use Rattle.diamond_cli.proofs.Served.{unended-serves}
use Rattle.commit_file.specs.declared.recover_error.RecoverError.TheVariants as error
use Rattle.diamond_cli.proofs.top.diamond.Goals as goal

-- ---- a run

pub returns-in-Ok-Run-clause-other : goal.returns-in-Ok-Run-clause-other
returns-in-Ok-Run-clause-other g c = λ no. absurd (runs-something c.args.words.now _ _ c.in-Ok-Run.ensures.plan c.in-Ok-Run.field-0-is no)

pub returns-in-Ok-Run-clause-unread : goal.returns-in-Ok-Run-clause-unread
returns-in-Ok-Run-clause-unread g c = λ no. absurd (runs-something c.args.words.now _ _ c.in-Ok-Run.ensures.plan c.in-Ok-Run.field-0-is no)

pub returns-in-Ok-Run-clause-unwritten : goal.returns-in-Ok-Run-clause-unwritten
returns-in-Ok-Run-clause-unwritten g c = λ no. absurd (runs-something c.args.words.now _ _ c.in-Ok-Run.ensures.plan c.in-Ok-Run.field-0-is no)

pub returns-in-Ok-Run-clause-run : goal.returns-in-Ok-Run-clause-run
returns-in-Ok-Run-clause-run g c = λ asks. record {
  settings = c.in-Ok-Run.settings;
  asked = plan-asks (texts c.args.words.now) _ _ c.in-Ok-Run.ensures.plan c.in-Ok-Run.field-0-is;
  promises = c.run.ensures;
}

pub returns-in-Ok-Run-clause-serve : goal.returns-in-Ok-Run-clause-serve
returns-in-Ok-Run-clause-serve g c = λ asks. absurd (other-command (texts c.args.words.now) _ _ refl (plan-asks (texts c.args.words.now) _ _ c.in-Ok-Run.ensures.plan c.in-Ok-Run.field-0-is) asks.4)

pub returns-in-Ok-Run-clause-unused_by_serve : goal.returns-in-Ok-Run-clause-unused_by_serve
returns-in-Ok-Run-clause-unused_by_serve g c = λ asks. absurd (other-command (texts c.args.words.now) _ _ refl (plan-asks (texts c.args.words.now) _ _ c.in-Ok-Run.ensures.plan c.in-Ok-Run.field-0-is) asks.4)

pub returns-in-Ok-Run-clause-files : goal.returns-in-Ok-Run-clause-files
returns-in-Ok-Run-clause-files g c = λ asks. absurd (other-command (texts c.args.words.now) _ _ refl (plan-asks (texts c.args.words.now) _ _ c.in-Ok-Run.ensures.plan c.in-Ok-Run.field-0-is) asks.5)

pub returns-in-Ok-Run-clause-unused_by_files : goal.returns-in-Ok-Run-clause-unused_by_files
returns-in-Ok-Run-clause-unused_by_files g c = λ asks. absurd (other-command (texts c.args.words.now) _ _ refl (plan-asks (texts c.args.words.now) _ _ c.in-Ok-Run.ensures.plan c.in-Ok-Run.field-0-is) asks.5)

pub returns-in-Ok-Run-clause-audit : goal.returns-in-Ok-Run-clause-audit
returns-in-Ok-Run-clause-audit g c = λ asks. absurd (other-command (texts c.args.words.now) _ _ refl (plan-asks (texts c.args.words.now) _ _ c.in-Ok-Run.ensures.plan c.in-Ok-Run.field-0-is) asks.2)

pub returns-in-Ok-Run-clause-unused_by_audit : goal.returns-in-Ok-Run-clause-unused_by_audit
returns-in-Ok-Run-clause-unused_by_audit g c = λ asks. absurd (other-command (texts c.args.words.now) _ _ refl (plan-asks (texts c.args.words.now) _ _ c.in-Ok-Run.ensures.plan c.in-Ok-Run.field-0-is) asks.2)

pub returns-in-Ok-Run-clause-spared_by_audit : goal.returns-in-Ok-Run-clause-spared_by_audit
returns-in-Ok-Run-clause-spared_by_audit g c = λ asks. absurd (other-command (texts c.args.words.now) _ _ refl (plan-asks (texts c.args.words.now) _ _ c.in-Ok-Run.ensures.plan c.in-Ok-Run.field-0-is) asks.2)

pub returns-in-Ok-Run-clause-remote : goal.returns-in-Ok-Run-clause-remote
returns-in-Ok-Run-clause-remote g c = λ asks. absurd (other-command (texts c.args.words.now) _ _ refl (plan-asks (texts c.args.words.now) _ _ c.in-Ok-Run.ensures.plan c.in-Ok-Run.field-0-is) asks.1)

pub returns-in-Ok-Run-clause-load : goal.returns-in-Ok-Run-clause-load
returns-in-Ok-Run-clause-load g c = λ asks. absurd (other-command (texts c.args.words.now) _ _ refl (plan-asks (texts c.args.words.now) _ _ c.in-Ok-Run.ensures.plan c.in-Ok-Run.field-0-is) asks.3)

pub returns-in-Ok-Run-clause-unused_by_load : goal.returns-in-Ok-Run-clause-unused_by_load
returns-in-Ok-Run-clause-unused_by_load g c = λ asks. absurd (other-command (texts c.args.words.now) _ _ refl (plan-asks (texts c.args.words.now) _ _ c.in-Ok-Run.ensures.plan c.in-Ok-Run.field-0-is) asks.3)

-- ---- serving in memory

pub returns-in-None-clause-other : goal.returns-in-None-clause-other
returns-in-None-clause-other g c = λ no. absurd (serves-something c.args.words.now _ _ _ _ _ c.in-Ok-Serve.ensures.plan (with-file _ _ _ _ _ None _ c.in-Ok-Serve.field-0-is c.in-None.is) no)

pub returns-in-None-clause-unread : goal.returns-in-None-clause-unread
returns-in-None-clause-unread g c = λ no. absurd (serves-something c.args.words.now _ _ _ _ _ c.in-Ok-Serve.ensures.plan (with-file _ _ _ _ _ None _ c.in-Ok-Serve.field-0-is c.in-None.is) no)

pub returns-in-None-clause-unwritten : goal.returns-in-None-clause-unwritten
returns-in-None-clause-unwritten g c = λ no. absurd (serves-something c.args.words.now _ _ _ _ _ c.in-Ok-Serve.ensures.plan (with-file _ _ _ _ _ None _ c.in-Ok-Serve.field-0-is c.in-None.is) no)

pub returns-in-None-clause-run : goal.returns-in-None-clause-run
returns-in-None-clause-run g c = λ asks. absurd (other-command (texts c.args.words.now) _ _ refl (plan-asks (texts c.args.words.now) _ _ c.in-Ok-Serve.ensures.plan (with-file _ _ _ _ _ None _ c.in-Ok-Serve.field-0-is c.in-None.is)) asks.1)

pub returns-in-None-clause-unused_by_run : goal.returns-in-None-clause-unused_by_run
returns-in-None-clause-unused_by_run g c = λ asks. absurd (other-command (texts c.args.words.now) _ _ refl (plan-asks (texts c.args.words.now) _ _ c.in-Ok-Serve.ensures.plan (with-file _ _ _ _ _ None _ c.in-Ok-Serve.field-0-is c.in-None.is)) asks.1)

pub returns-in-None-clause-serve : goal.returns-in-None-clause-serve
returns-in-None-clause-serve g c = λ asks. record {
  settings = c.in-Ok-Serve.settings;
  address = c.in-Ok-Serve.field-0-1;
  sessions = c.in-Ok-Serve.sessions;
  wire = c.in-Ok-Serve.wire;
  asked = plan-asks (texts c.args.words.now) _ _ c.in-Ok-Serve.ensures.plan (with-file _ _ _ _ _ None _ c.in-Ok-Serve.field-0-is c.in-None.is);
  promises = c.serve.ensures.serves;
  ends = c.serve.ensures.ends;
}

pub returns-in-None-clause-files : goal.returns-in-None-clause-files
returns-in-None-clause-files g c = λ asks. absurd (memory-no-file (texts c.args.words.now) _ _ _ _ _ _ _ _ _ (plan-asks (texts c.args.words.now) _ _ c.in-Ok-Serve.ensures.plan (with-file _ _ _ _ _ None _ c.in-Ok-Serve.field-0-is c.in-None.is)) asks.5)

pub returns-in-None-clause-unused_by_files : goal.returns-in-None-clause-unused_by_files
returns-in-None-clause-unused_by_files g c = λ asks. absurd (memory-no-file (texts c.args.words.now) _ _ _ _ _ _ _ _ _ (plan-asks (texts c.args.words.now) _ _ c.in-Ok-Serve.ensures.plan (with-file _ _ _ _ _ None _ c.in-Ok-Serve.field-0-is c.in-None.is)) asks.5)

pub returns-in-None-clause-audit : goal.returns-in-None-clause-audit
returns-in-None-clause-audit g c = λ asks. absurd (other-command (texts c.args.words.now) _ _ refl (plan-asks (texts c.args.words.now) _ _ c.in-Ok-Serve.ensures.plan (with-file _ _ _ _ _ None _ c.in-Ok-Serve.field-0-is c.in-None.is)) asks.2)

pub returns-in-None-clause-unused_by_audit : goal.returns-in-None-clause-unused_by_audit
returns-in-None-clause-unused_by_audit g c = λ asks. absurd (other-command (texts c.args.words.now) _ _ refl (plan-asks (texts c.args.words.now) _ _ c.in-Ok-Serve.ensures.plan (with-file _ _ _ _ _ None _ c.in-Ok-Serve.field-0-is c.in-None.is)) asks.2)

pub returns-in-None-clause-spared_by_audit : goal.returns-in-None-clause-spared_by_audit
returns-in-None-clause-spared_by_audit g c = λ asks. absurd (other-command (texts c.args.words.now) _ _ refl (plan-asks (texts c.args.words.now) _ _ c.in-Ok-Serve.ensures.plan (with-file _ _ _ _ _ None _ c.in-Ok-Serve.field-0-is c.in-None.is)) asks.2)

pub returns-in-None-clause-remote : goal.returns-in-None-clause-remote
returns-in-None-clause-remote g c = λ asks. absurd (other-command (texts c.args.words.now) _ _ refl (plan-asks (texts c.args.words.now) _ _ c.in-Ok-Serve.ensures.plan (with-file _ _ _ _ _ None _ c.in-Ok-Serve.field-0-is c.in-None.is)) asks.1)

pub returns-in-None-clause-load : goal.returns-in-None-clause-load
returns-in-None-clause-load g c = λ asks. absurd (other-command (texts c.args.words.now) _ _ refl (plan-asks (texts c.args.words.now) _ _ c.in-Ok-Serve.ensures.plan (with-file _ _ _ _ _ None _ c.in-Ok-Serve.field-0-is c.in-None.is)) asks.3)

pub returns-in-None-clause-unused_by_load : goal.returns-in-None-clause-unused_by_load
returns-in-None-clause-unused_by_load g c = λ asks. absurd (other-command (texts c.args.words.now) _ _ refl (plan-asks (texts c.args.words.now) _ _ c.in-Ok-Serve.ensures.plan (with-file _ _ _ _ _ None _ c.in-Ok-Serve.field-0-is c.in-None.is)) asks.3)

-- ---- serving in a file

pub returns-in-Ok-Serve-clause-other : goal.returns-in-Ok-Serve-clause-other
returns-in-Ok-Serve-clause-other g c = λ no. absurd (files-something c.args.words.now _ _ _ _ _ _ c.in-Ok-Serve.ensures.plan (with-file _ _ _ _ _ _ _ c.in-Ok-Serve.field-0-is c.in-Some.is) no)

pub returns-in-Ok-Serve-clause-unread : goal.returns-in-Ok-Serve-clause-unread
returns-in-Ok-Serve-clause-unread g c = λ no. absurd (files-something c.args.words.now _ _ _ _ _ _ c.in-Ok-Serve.ensures.plan (with-file _ _ _ _ _ _ _ c.in-Ok-Serve.field-0-is c.in-Some.is) no)

pub returns-in-Ok-Serve-clause-unwritten : goal.returns-in-Ok-Serve-clause-unwritten
returns-in-Ok-Serve-clause-unwritten g c = λ no. absurd (files-something c.args.words.now _ _ _ _ _ _ c.in-Ok-Serve.ensures.plan (with-file _ _ _ _ _ _ _ c.in-Ok-Serve.field-0-is c.in-Some.is) no)

pub returns-in-Ok-Serve-clause-run : goal.returns-in-Ok-Serve-clause-run
returns-in-Ok-Serve-clause-run g c = λ asks. absurd (other-command (texts c.args.words.now) _ _ refl (plan-asks (texts c.args.words.now) _ _ c.in-Ok-Serve.ensures.plan (with-file _ _ _ _ _ _ _ c.in-Ok-Serve.field-0-is c.in-Some.is)) asks.1)

pub returns-in-Ok-Serve-clause-unused_by_run : goal.returns-in-Ok-Serve-clause-unused_by_run
returns-in-Ok-Serve-clause-unused_by_run g c = λ asks. absurd (other-command (texts c.args.words.now) _ _ refl (plan-asks (texts c.args.words.now) _ _ c.in-Ok-Serve.ensures.plan (with-file _ _ _ _ _ _ _ c.in-Ok-Serve.field-0-is c.in-Some.is)) asks.1)

pub returns-in-Ok-Serve-clause-serve : goal.returns-in-Ok-Serve-clause-serve
returns-in-Ok-Serve-clause-serve g c = λ asks. absurd (memory-no-file (texts c.args.words.now) _ _ _ _ _ _ _ _ _ asks.4 (plan-asks (texts c.args.words.now) _ _ c.in-Ok-Serve.ensures.plan (with-file _ _ _ _ _ _ _ c.in-Ok-Serve.field-0-is c.in-Some.is)))

pub returns-in-Ok-Serve-clause-unused_by_serve : goal.returns-in-Ok-Serve-clause-unused_by_serve
returns-in-Ok-Serve-clause-unused_by_serve g c = λ asks. absurd (memory-no-file (texts c.args.words.now) _ _ _ _ _ _ _ _ _ asks.4 (plan-asks (texts c.args.words.now) _ _ c.in-Ok-Serve.ensures.plan (with-file _ _ _ _ _ _ _ c.in-Ok-Serve.field-0-is c.in-Some.is)))

pub returns-in-Ok-Serve-clause-files : goal.returns-in-Ok-Serve-clause-files
returns-in-Ok-Serve-clause-files g c = λ asks. record {
  settings = c.in-Ok-Serve.settings;
  address = c.in-Ok-Serve.field-0-1;
  sessions = c.in-Ok-Serve.sessions;
  path = c.in-Some.field-0;
  wire = c.in-Ok-Serve.wire;
  asked = plan-asks (texts c.args.words.now) _ _ c.in-Ok-Serve.ensures.plan (with-file _ _ _ _ _ _ _ c.in-Ok-Serve.field-0-is c.in-Some.is);
  promises = c.serve_file.ensures.serves;
  ends = c.serve_file.ensures.ends;
}

pub returns-in-Ok-Serve-clause-audit : goal.returns-in-Ok-Serve-clause-audit
returns-in-Ok-Serve-clause-audit g c = λ asks. absurd (other-command (texts c.args.words.now) _ _ refl (plan-asks (texts c.args.words.now) _ _ c.in-Ok-Serve.ensures.plan (with-file _ _ _ _ _ _ _ c.in-Ok-Serve.field-0-is c.in-Some.is)) asks.2)

pub returns-in-Ok-Serve-clause-unused_by_audit : goal.returns-in-Ok-Serve-clause-unused_by_audit
returns-in-Ok-Serve-clause-unused_by_audit g c = λ asks. absurd (other-command (texts c.args.words.now) _ _ refl (plan-asks (texts c.args.words.now) _ _ c.in-Ok-Serve.ensures.plan (with-file _ _ _ _ _ _ _ c.in-Ok-Serve.field-0-is c.in-Some.is)) asks.2)

pub returns-in-Ok-Serve-clause-spared_by_audit : goal.returns-in-Ok-Serve-clause-spared_by_audit
returns-in-Ok-Serve-clause-spared_by_audit g c = λ asks. absurd (other-command (texts c.args.words.now) _ _ refl (plan-asks (texts c.args.words.now) _ _ c.in-Ok-Serve.ensures.plan (with-file _ _ _ _ _ _ _ c.in-Ok-Serve.field-0-is c.in-Some.is)) asks.2)

pub returns-in-Ok-Serve-clause-remote : goal.returns-in-Ok-Serve-clause-remote
returns-in-Ok-Serve-clause-remote g c = λ asks. absurd (other-command (texts c.args.words.now) _ _ refl (plan-asks (texts c.args.words.now) _ _ c.in-Ok-Serve.ensures.plan (with-file _ _ _ _ _ _ _ c.in-Ok-Serve.field-0-is c.in-Some.is)) asks.1)

pub returns-in-Ok-Serve-clause-unused_by_remote : goal.returns-in-Ok-Serve-clause-unused_by_remote
returns-in-Ok-Serve-clause-unused_by_remote g c = λ asks. absurd (other-command (texts c.args.words.now) _ _ refl (plan-asks (texts c.args.words.now) _ _ c.in-Ok-Serve.ensures.plan (with-file _ _ _ _ _ _ _ c.in-Ok-Serve.field-0-is c.in-Some.is)) asks.1)

pub returns-in-Ok-Serve-clause-load : goal.returns-in-Ok-Serve-clause-load
returns-in-Ok-Serve-clause-load g c = λ asks. absurd (other-command (texts c.args.words.now) _ _ refl (plan-asks (texts c.args.words.now) _ _ c.in-Ok-Serve.ensures.plan (with-file _ _ _ _ _ _ _ c.in-Ok-Serve.field-0-is c.in-Some.is)) asks.3)

pub returns-in-Ok-Serve-clause-unused_by_load : goal.returns-in-Ok-Serve-clause-unused_by_load
returns-in-Ok-Serve-clause-unused_by_load g c = λ asks. absurd (other-command (texts c.args.words.now) _ _ refl (plan-asks (texts c.args.words.now) _ _ c.in-Ok-Serve.ensures.plan (with-file _ _ _ _ _ _ _ c.in-Ok-Serve.field-0-is c.in-Some.is)) asks.3)

-- ---- an audit

pub returns-in-Ok-Audit-clause-other : goal.returns-in-Ok-Audit-clause-other
returns-in-Ok-Audit-clause-other g c = λ no. absurd (audits-something c.args.words.now _ _ _ c.in-Ok-Audit.ensures.plan c.in-Ok-Audit.field-0-is no)

pub returns-in-Ok-Audit-clause-unread : goal.returns-in-Ok-Audit-clause-unread
returns-in-Ok-Audit-clause-unread g c = λ no. absurd (audits-something c.args.words.now _ _ _ c.in-Ok-Audit.ensures.plan c.in-Ok-Audit.field-0-is no)

pub returns-in-Ok-Audit-clause-unwritten : goal.returns-in-Ok-Audit-clause-unwritten
returns-in-Ok-Audit-clause-unwritten g c = λ no. absurd (audits-something c.args.words.now _ _ _ c.in-Ok-Audit.ensures.plan c.in-Ok-Audit.field-0-is no)

pub returns-in-Ok-Audit-clause-run : goal.returns-in-Ok-Audit-clause-run
returns-in-Ok-Audit-clause-run g c = λ asks. absurd (other-command (texts c.args.words.now) _ _ refl (plan-asks (texts c.args.words.now) _ _ c.in-Ok-Audit.ensures.plan c.in-Ok-Audit.field-0-is) asks.1)

pub returns-in-Ok-Audit-clause-unused_by_run : goal.returns-in-Ok-Audit-clause-unused_by_run
returns-in-Ok-Audit-clause-unused_by_run g c = λ asks. absurd (other-command (texts c.args.words.now) _ _ refl (plan-asks (texts c.args.words.now) _ _ c.in-Ok-Audit.ensures.plan c.in-Ok-Audit.field-0-is) asks.1)

pub returns-in-Ok-Audit-clause-serve : goal.returns-in-Ok-Audit-clause-serve
returns-in-Ok-Audit-clause-serve g c = λ asks. absurd (other-command (texts c.args.words.now) _ _ refl (plan-asks (texts c.args.words.now) _ _ c.in-Ok-Audit.ensures.plan c.in-Ok-Audit.field-0-is) asks.4)

pub returns-in-Ok-Audit-clause-unused_by_serve : goal.returns-in-Ok-Audit-clause-unused_by_serve
returns-in-Ok-Audit-clause-unused_by_serve g c = λ asks. absurd (other-command (texts c.args.words.now) _ _ refl (plan-asks (texts c.args.words.now) _ _ c.in-Ok-Audit.ensures.plan c.in-Ok-Audit.field-0-is) asks.4)

pub returns-in-Ok-Audit-clause-files : goal.returns-in-Ok-Audit-clause-files
returns-in-Ok-Audit-clause-files g c = λ asks. absurd (other-command (texts c.args.words.now) _ _ refl (plan-asks (texts c.args.words.now) _ _ c.in-Ok-Audit.ensures.plan c.in-Ok-Audit.field-0-is) asks.5)

pub returns-in-Ok-Audit-clause-unused_by_files : goal.returns-in-Ok-Audit-clause-unused_by_files
returns-in-Ok-Audit-clause-unused_by_files g c = λ asks. absurd (other-command (texts c.args.words.now) _ _ refl (plan-asks (texts c.args.words.now) _ _ c.in-Ok-Audit.ensures.plan c.in-Ok-Audit.field-0-is) asks.5)

pub returns-in-Ok-Audit-clause-audit : goal.returns-in-Ok-Audit-clause-audit
returns-in-Ok-Audit-clause-audit g c = λ asks. record {
  path = c.in-Ok-Audit.field-0-0;
  at = c.in-Ok-Audit.at;
  asked = plan-asks (texts c.args.words.now) _ _ c.in-Ok-Audit.ensures.plan c.in-Ok-Audit.field-0-is;
  promises = c.audit_file.ensures.audits;
}

pub returns-in-Ok-Audit-clause-spared_by_audit : goal.returns-in-Ok-Audit-clause-spared_by_audit
returns-in-Ok-Audit-clause-spared_by_audit g c = λ asks. (c.audit_file.ensures.audits.spared, c.audit_file.ensures.past)

pub returns-in-Ok-Audit-clause-remote : goal.returns-in-Ok-Audit-clause-remote
returns-in-Ok-Audit-clause-remote g c = λ asks. absurd (other-command (texts c.args.words.now) _ _ refl (plan-asks (texts c.args.words.now) _ _ c.in-Ok-Audit.ensures.plan c.in-Ok-Audit.field-0-is) asks.1)

pub returns-in-Ok-Audit-clause-unused_by_remote : goal.returns-in-Ok-Audit-clause-unused_by_remote
returns-in-Ok-Audit-clause-unused_by_remote g c = λ asks. absurd (other-command (texts c.args.words.now) _ _ refl (plan-asks (texts c.args.words.now) _ _ c.in-Ok-Audit.ensures.plan c.in-Ok-Audit.field-0-is) asks.1)

pub returns-in-Ok-Audit-clause-load : goal.returns-in-Ok-Audit-clause-load
returns-in-Ok-Audit-clause-load g c = λ asks. absurd (other-command (texts c.args.words.now) _ _ refl (plan-asks (texts c.args.words.now) _ _ c.in-Ok-Audit.ensures.plan c.in-Ok-Audit.field-0-is) asks.3)

pub returns-in-Ok-Audit-clause-unused_by_load : goal.returns-in-Ok-Audit-clause-unused_by_load
returns-in-Ok-Audit-clause-unused_by_load g c = λ asks. absurd (other-command (texts c.args.words.now) _ _ refl (plan-asks (texts c.args.words.now) _ _ c.in-Ok-Audit.ensures.plan c.in-Ok-Audit.field-0-is) asks.3)

-- ---- a session over a store elsewhere

pub returns-in-Ok-Remote-clause-other : goal.returns-in-Ok-Remote-clause-other
returns-in-Ok-Remote-clause-other g c = λ no. absurd (remotes-something c.args.words.now _ _ c.in-Ok-Remote.ensures.plan c.in-Ok-Remote.field-0-is no)

pub returns-in-Ok-Remote-clause-unread : goal.returns-in-Ok-Remote-clause-unread
returns-in-Ok-Remote-clause-unread g c = λ no. absurd (remotes-something c.args.words.now _ _ c.in-Ok-Remote.ensures.plan c.in-Ok-Remote.field-0-is no)

pub returns-in-Ok-Remote-clause-unwritten : goal.returns-in-Ok-Remote-clause-unwritten
returns-in-Ok-Remote-clause-unwritten g c = λ no. absurd (remotes-something c.args.words.now _ _ c.in-Ok-Remote.ensures.plan c.in-Ok-Remote.field-0-is no)

pub returns-in-Ok-Remote-clause-run : goal.returns-in-Ok-Remote-clause-run
returns-in-Ok-Remote-clause-run g c = λ asks. absurd (other-command (texts c.args.words.now) _ _ refl (plan-asks (texts c.args.words.now) _ _ c.in-Ok-Remote.ensures.plan c.in-Ok-Remote.field-0-is) asks.1)

pub returns-in-Ok-Remote-clause-unused_by_run : goal.returns-in-Ok-Remote-clause-unused_by_run
returns-in-Ok-Remote-clause-unused_by_run g c = λ asks. absurd (other-command (texts c.args.words.now) _ _ refl (plan-asks (texts c.args.words.now) _ _ c.in-Ok-Remote.ensures.plan c.in-Ok-Remote.field-0-is) asks.1)

pub returns-in-Ok-Remote-clause-serve : goal.returns-in-Ok-Remote-clause-serve
returns-in-Ok-Remote-clause-serve g c = λ asks. absurd (other-command (texts c.args.words.now) _ _ refl (plan-asks (texts c.args.words.now) _ _ c.in-Ok-Remote.ensures.plan c.in-Ok-Remote.field-0-is) asks.4)

pub returns-in-Ok-Remote-clause-unused_by_serve : goal.returns-in-Ok-Remote-clause-unused_by_serve
returns-in-Ok-Remote-clause-unused_by_serve g c = λ asks. absurd (other-command (texts c.args.words.now) _ _ refl (plan-asks (texts c.args.words.now) _ _ c.in-Ok-Remote.ensures.plan c.in-Ok-Remote.field-0-is) asks.4)

pub returns-in-Ok-Remote-clause-files : goal.returns-in-Ok-Remote-clause-files
returns-in-Ok-Remote-clause-files g c = λ asks. absurd (other-command (texts c.args.words.now) _ _ refl (plan-asks (texts c.args.words.now) _ _ c.in-Ok-Remote.ensures.plan c.in-Ok-Remote.field-0-is) asks.5)

pub returns-in-Ok-Remote-clause-unused_by_files : goal.returns-in-Ok-Remote-clause-unused_by_files
returns-in-Ok-Remote-clause-unused_by_files g c = λ asks. absurd (other-command (texts c.args.words.now) _ _ refl (plan-asks (texts c.args.words.now) _ _ c.in-Ok-Remote.ensures.plan c.in-Ok-Remote.field-0-is) asks.5)

pub returns-in-Ok-Remote-clause-audit : goal.returns-in-Ok-Remote-clause-audit
returns-in-Ok-Remote-clause-audit g c = λ asks. absurd (other-command (texts c.args.words.now) _ _ refl (plan-asks (texts c.args.words.now) _ _ c.in-Ok-Remote.ensures.plan c.in-Ok-Remote.field-0-is) asks.2)

pub returns-in-Ok-Remote-clause-unused_by_audit : goal.returns-in-Ok-Remote-clause-unused_by_audit
returns-in-Ok-Remote-clause-unused_by_audit g c = λ asks. absurd (other-command (texts c.args.words.now) _ _ refl (plan-asks (texts c.args.words.now) _ _ c.in-Ok-Remote.ensures.plan c.in-Ok-Remote.field-0-is) asks.2)

pub returns-in-Ok-Remote-clause-remote : goal.returns-in-Ok-Remote-clause-remote
returns-in-Ok-Remote-clause-remote g c = λ asks. record {
  address = c.in-Ok-Remote.field-0-0;
  asked = plan-asks (texts c.args.words.now) _ _ c.in-Ok-Remote.ensures.plan c.in-Ok-Remote.field-0-is;
  promises = c.remote.ensures;
}

pub returns-in-Ok-Remote-clause-load : goal.returns-in-Ok-Remote-clause-load
returns-in-Ok-Remote-clause-load g c = λ asks. absurd (other-command (texts c.args.words.now) _ _ refl (plan-asks (texts c.args.words.now) _ _ c.in-Ok-Remote.ensures.plan c.in-Ok-Remote.field-0-is) asks.3)

pub returns-in-Ok-Remote-clause-unused_by_load : goal.returns-in-Ok-Remote-clause-unused_by_load
returns-in-Ok-Remote-clause-unused_by_load g c = λ asks. absurd (other-command (texts c.args.words.now) _ _ refl (plan-asks (texts c.args.words.now) _ _ c.in-Ok-Remote.ensures.plan c.in-Ok-Remote.field-0-is) asks.3)

-- ---- a load

pub returns-in-Ok-Load-clause-other : goal.returns-in-Ok-Load-clause-other
returns-in-Ok-Load-clause-other g c = λ no. absurd (loads-something c.args.words.now _ _ _ _ c.in-Ok-Load.ensures.plan c.in-Ok-Load.field-0-is no)

pub returns-in-Ok-Load-clause-unread : goal.returns-in-Ok-Load-clause-unread
returns-in-Ok-Load-clause-unread g c = λ no. absurd (loads-something c.args.words.now _ _ _ _ c.in-Ok-Load.ensures.plan c.in-Ok-Load.field-0-is no)

pub returns-in-Ok-Load-clause-unwritten : goal.returns-in-Ok-Load-clause-unwritten
returns-in-Ok-Load-clause-unwritten g c = λ no. absurd (loads-something c.args.words.now _ _ _ _ c.in-Ok-Load.ensures.plan c.in-Ok-Load.field-0-is no)

pub returns-in-Ok-Load-clause-run : goal.returns-in-Ok-Load-clause-run
returns-in-Ok-Load-clause-run g c = λ asks. absurd (other-command (texts c.args.words.now) _ _ refl (plan-asks (texts c.args.words.now) _ _ c.in-Ok-Load.ensures.plan c.in-Ok-Load.field-0-is) asks.1)

pub returns-in-Ok-Load-clause-serve : goal.returns-in-Ok-Load-clause-serve
returns-in-Ok-Load-clause-serve g c = λ asks. absurd (other-command (texts c.args.words.now) _ _ refl (plan-asks (texts c.args.words.now) _ _ c.in-Ok-Load.ensures.plan c.in-Ok-Load.field-0-is) asks.4)

pub returns-in-Ok-Load-clause-files : goal.returns-in-Ok-Load-clause-files
returns-in-Ok-Load-clause-files g c = λ asks. absurd (other-command (texts c.args.words.now) _ _ refl (plan-asks (texts c.args.words.now) _ _ c.in-Ok-Load.ensures.plan c.in-Ok-Load.field-0-is) asks.5)

pub returns-in-Ok-Load-clause-audit : goal.returns-in-Ok-Load-clause-audit
returns-in-Ok-Load-clause-audit g c = λ asks. absurd (other-command (texts c.args.words.now) _ _ refl (plan-asks (texts c.args.words.now) _ _ c.in-Ok-Load.ensures.plan c.in-Ok-Load.field-0-is) asks.2)

pub returns-in-Ok-Load-clause-remote : goal.returns-in-Ok-Load-clause-remote
returns-in-Ok-Load-clause-remote g c = λ asks. absurd (other-command (texts c.args.words.now) _ _ refl (plan-asks (texts c.args.words.now) _ _ c.in-Ok-Load.ensures.plan c.in-Ok-Load.field-0-is) asks.1)

pub returns-in-Ok-Load-clause-load : goal.returns-in-Ok-Load-clause-load
returns-in-Ok-Load-clause-load g c = λ asks. record {
  settings = c.in-Ok-Load.settings;
  seed = c.in-Ok-Load.seed;
  count = c.in-Ok-Load.count;
  asked = plan-asks (texts c.args.words.now) _ _ c.in-Ok-Load.ensures.plan c.in-Ok-Load.field-0-is;
  promises = c.run_load.ensures;
}

-- ---- no command was read from the words

pub returns-clause-form : goal.returns-clause-form
returns-clause-form g c = λ is.
    unread-nothing c.args.words.now c.in-Err.error c.in-Err.ensures.refused (sym c.words_status.ensures ∙ is)

pub returns-clause-other : goal.returns-clause-other
returns-clause-other g c = λ no. rw c.words_status.ensures (unread-statuses c.in-Err.error)

pub returns-clause-run : goal.returns-clause-run
returns-clause-run g c = λ asks.
    rw (c.words_status.ensures ∙ spelled-wanting (texts c.args.words.now) c.in-Err.error _ c.in-Err.ensures.refused asks.1) record {
      settings = asks.0;
      asked = asks.1;
      promises = unstarted asks.0 (g.S.Source.left c.args.source.now) (g.W.Sink.taken c.args.sink.now) (g.W.Sink.passed c.args.sink.now)
          (g.S.Source.read_faults c.args.source.now) (g.W.Sink.write_faults c.args.sink.now);
    }

pub returns-clause-serve : goal.returns-clause-serve
returns-clause-serve g c = λ asks.
    rw (c.words_status.ensures ∙ spelled-wanting (texts c.args.words.now) c.in-Err.error _ c.in-Err.ensures.refused asks.4) record {
      settings = asks.0;
      address = asks.1;
      sessions = asks.2;
      wire = asks.3;
      asked = asks.4;
      promises = unended-serves _ _ asks.0 asks.2 _ _ refl refl;
      ends = λ no. absurd (no refl);
    }

pub returns-clause-files : goal.returns-clause-files
returns-clause-files g c = λ asks.
    rw (c.words_status.ensures ∙ spelled-wanting (texts c.args.words.now) c.in-Err.error _ c.in-Err.ensures.refused asks.5) record {
      settings = asks.0;
      address = asks.1;
      sessions = asks.2;
      path = asks.3;
      wire = asks.4;
      asked = asks.5;
      promises = refused-serves _ _ asks.0 asks.2 _ _ _ error.NoMemory (refl, refl);
      ends = λ no. absurd (no refl);
    }

pub returns-clause-audit : goal.returns-clause-audit
returns-clause-audit g c = λ asks.
    rw (c.words_status.ensures ∙ spelled-wanting (texts c.args.words.now) c.in-Err.error _ c.in-Err.ensures.refused asks.2) record {
      path = asks.0;
      at = asks.1;
      asked = asks.2;
      promises = audits-unread _ _ asks.1 error.NoMemory (no-memory _ _ refl (refl, refl));
    }

pub returns-clause-remote : goal.returns-clause-remote
returns-clause-remote g c = λ asks.
    rw (c.words_status.ensures ∙ spelled-wanting (texts c.args.words.now) c.in-Err.error _ c.in-Err.ensures.refused asks.1) record {
      address = asks.0;
      asked = asks.1;
      promises = unreached _ _ _ _;
    }

pub returns-clause-load : goal.returns-clause-load
returns-clause-load g c = λ asks.
    rw (c.words_status.ensures ∙ spelled-wanting (texts c.args.words.now) c.in-Err.error _ c.in-Err.ensures.refused asks.3) record {
      settings = asks.0;
      seed = asks.1;
      count = asks.2;
      asked = asks.3;
      promises = loads-unmade asks.0 asks.1 asks.2 _ refl refl;
    }
