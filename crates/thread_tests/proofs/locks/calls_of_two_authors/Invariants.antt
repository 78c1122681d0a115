use Rattle.thread_tests.proofs.locks.calls_of_two_authors.Given as goal

-- the lock that was just opened
abbrev pub ghosts-two_authors : goal.ghosts-two_authors
ghosts-two_authors g a = record { lock = a.opened.lock }
