use Rattle.local_world.proofs.world.World.append.Given as goal

-- the ledger that the counter of steps is kept by
abbrev pub ghosts-decide : goal.ghosts-decide
ghosts-decide a = record { name = a.blank.name; parts = a.blank.parts }
