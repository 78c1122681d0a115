use Rattle.diamond_store.proofs.replica.Replica.prepare.Given as goal

-- the ledger that the counter of steps is kept by
abbrev pub ghosts-validate : goal.ghosts-validate
ghosts-validate g a = record { name = a.blank.name; parts = a.blank.parts }
