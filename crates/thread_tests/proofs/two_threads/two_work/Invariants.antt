use Rattle.thread_tests.proofs.two_threads.two_work.Given as goal

-- the lock that was just opened
abbrev pub ghosts-in_two_threads : goal.ghosts-in_two_threads
ghosts-in_two_threads g a = record { lock = a.opened.lock }
