use Rattle.rerun_driver.proofs.touching.touches.Given as goal

-- the ledger that the counter of steps is kept by
abbrev pub ghosts-touches_by : goal.ghosts-touches_by
ghosts-touches_by a = record { name = a.blank.name; parts = a.blank.parts }
