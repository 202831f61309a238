use Rattle.turn_lock.proofs.turns.Turns.split.Given as goal

-- the share that is asked for
abbrev pub ghosts-cut : goal.ghosts-cut
ghosts-cut g a = record { portion = a.share }
