use Rattle.thread_tests.proofs.backends.tries.tried_anew.Given as goal

-- the lock that was just opened
abbrev pub ghosts-tried : goal.ghosts-tried
ghosts-tried g a = record { lock = a.opened.lock }
