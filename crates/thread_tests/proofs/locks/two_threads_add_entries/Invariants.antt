use Rattle.thread_tests.proofs.locks.two_threads_add_entries.Given as goal

-- the lock that was just opened
abbrev pub ghosts-two_threads : goal.ghosts-two_threads
ghosts-two_threads g a = record { lock = a.opened.lock }
