use Rattle.store_tests.proofs.attempts.appending.goes_first.Given as goal

-- the ledger that the counter is kept by
abbrev pub ghosts-cleared : goal.ghosts-cleared
ghosts-cleared a = record { name = a.blank.name; parts = a.blank.parts }
