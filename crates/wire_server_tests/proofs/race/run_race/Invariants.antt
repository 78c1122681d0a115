use Rattle.wire_server_tests.proofs.race.run_race.Given as goal

-- the lock that was just opened
abbrev pub ghosts-all_race : goal.ghosts-all_race
ghosts-all_race g a = record { lock = a.opened.lock }
