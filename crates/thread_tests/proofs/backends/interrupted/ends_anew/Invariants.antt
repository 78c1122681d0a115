use Rattle.thread_tests.proofs.backends.interrupted.ends_anew.Given as goal

-- the lock that was just opened
abbrev pub ghosts-ends_in : goal.ghosts-ends_in
ghosts-ends_in g a = record { lock = a.opened.lock }
