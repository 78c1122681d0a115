use Rattle.diamond_store.proofs.book.Book.append.Given as goal

-- the ledger that the counter of steps is kept by
abbrev pub ghosts-decide : goal.ghosts-decide
ghosts-decide g a = record { name = a.blank.name; parts = a.blank.parts }
