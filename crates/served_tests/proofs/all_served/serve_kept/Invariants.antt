use Rattle.served_tests.proofs.all_served.serve_kept.Given as goal

-- the lock that was just opened
abbrev pub ghosts-serve_over : goal.ghosts-serve_over
ghosts-serve_over g a = record { lock = a.beginning.opened.lock }
