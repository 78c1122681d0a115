use Rattle.served_tests.proofs.served_links.both_served.Given as goal

-- the lock that was just opened
abbrev pub ghosts-serve_two : goal.ghosts-serve_two
ghosts-serve_two g a = record { lock = a.opened.lock }
