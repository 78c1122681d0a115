use Rattle.diamond_cli.proofs.sessions.serve_kept.Given as goal

-- the lock that was just made
abbrev pub ghosts-serve_over : goal.ghosts-serve_over
ghosts-serve_over g a = record { lock = a.opened.lock }
