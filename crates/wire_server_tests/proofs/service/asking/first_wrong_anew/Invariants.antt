use Rattle.wire_server_tests.proofs.service.asking.first_wrong_anew.Given as goal

-- the lock that was just opened
abbrev pub ghosts-first_wrong_in : goal.ghosts-first_wrong_in
ghosts-first_wrong_in g a = record { lock = a.opened.lock }
