use Rattle.thread_tests.proofs.slow_keeper.nobody_who_reads_waits_for_a_keeper.Given as goal

-- the lock that was just opened
abbrev pub ghosts-read_beside_a_commit : goal.ghosts-read_beside_a_commit
ghosts-read_beside_a_commit g a = record { lock = a.opened.lock }
