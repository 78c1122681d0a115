use Rattle.direct_cases.proofs.playing.play_anew.Given as goal

-- the lock that was just opened
abbrev pub ghosts-played : goal.ghosts-played
ghosts-played g a = record { lock = a.opened.lock }
