-- The ledger of the count of steps is the one that the blank begins.
use Rattle.text_alone.proofs.main.Given as goal

abbrev pub ghosts-run_over : goal.ghosts-run_over
ghosts-run_over g a = record { name = a.blank.name; parts = a.blank.parts }
