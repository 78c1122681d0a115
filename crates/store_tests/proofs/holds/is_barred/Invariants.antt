use Rattle.store_tests.proofs.holds.is_barred.Given as goal

-- the ledger that the counter is kept by
abbrev pub ghosts-bar : goal.ghosts-bar
ghosts-bar a = record { name = a.blank.name; parts = a.blank.parts }
