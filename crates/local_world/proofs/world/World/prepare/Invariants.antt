use Rattle.local_world.proofs.world.World.prepare.Given as goal

-- the ledger that the counter of steps is kept by
abbrev pub ghosts-validate_in : goal.ghosts-validate_in
ghosts-validate_in a = record { name = a.blank.name; parts = a.blank.parts }
