-- The ledger of the count of steps is the one that the blank begins.
use Rattle.serving_trial.proofs.main.Given as goal

abbrev pub ghosts-run : goal.ghosts-run
ghosts-run g a = record { name = a.blank.name; parts = a.blank.parts }
