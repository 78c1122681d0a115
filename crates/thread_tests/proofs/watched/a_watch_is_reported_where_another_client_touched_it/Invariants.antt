use Rattle.thread_tests.proofs.watched.a_watch_is_reported_where_another_client_touched_it.Given as goal

-- the lock that was just opened
abbrev pub ghosts-watched : goal.ghosts-watched
ghosts-watched g a = record { lock = a.opened.lock }
