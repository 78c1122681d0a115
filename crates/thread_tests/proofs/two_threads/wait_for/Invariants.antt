use Rattle.thread_tests.proofs.two_threads.wait_for.Given as goal

-- the lock that was just opened
abbrev pub ghosts-wait_on_its_own : goal.ghosts-wait_on_its_own
ghosts-wait_on_its_own g a = record { lock = a.opened.lock }
