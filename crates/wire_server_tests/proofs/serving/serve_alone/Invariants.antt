use Rattle.wire_server_tests.proofs.serving.serve_alone.Given as goal

-- the lock that was just opened
abbrev pub ghosts-serve_first : goal.ghosts-serve_first
ghosts-serve_first g a = record { lock = a.opened.lock }
