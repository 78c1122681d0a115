use Rattle.thread_tests.proofs.mixed.ran_anew.Given as goal

-- the lock that was just opened
abbrev pub ghosts-in_eight_threads : goal.ghosts-in_eight_threads
ghosts-in_eight_threads g a = record { lock = a.opened.lock }
