use Rattle.hold_core.proofs.ending.outlasts.Given as goal

-- the ledger that the counter of steps is kept by
abbrev pub ghosts-disturbed : goal.ghosts-disturbed
ghosts-disturbed a = record { name = a.blank.name; parts = a.blank.parts }
