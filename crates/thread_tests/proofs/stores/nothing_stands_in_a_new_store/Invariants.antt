use Rattle.thread_tests.proofs.stores.nothing_stands_in_a_new_store.Given as goal

-- the lock that was just opened
abbrev pub ghosts-new_store : goal.ghosts-new_store
ghosts-new_store g a = record { lock = a.opened.lock }
