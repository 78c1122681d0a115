use Rattle.data_tests.proofs.lists.clashes_at_three.Given as goal

-- the counter of steps is of the blank that is handed on
abbrev pub ghosts-clash_past : goal.ghosts-clash_past
ghosts-clash_past a = record { name = a.blank.name; parts = a.blank.parts }
