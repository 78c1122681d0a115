use Rattle.diamond_cli.proofs.audited.audit_kept.Given as goal

-- the state is asked for as the words say
abbrev pub ghosts-audit_read : goal.ghosts-audit_read
ghosts-audit_read g a = record { at = a.at }
