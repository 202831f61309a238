-- The ledger of the count of steps is the one that the blank begins.
use Rattle.lawdesk.proofs.run.run.Given as goal

abbrev pub ghosts-run_counted : goal.ghosts-run_counted
ghosts-run_counted g a = record { name = a.blank.name; parts = a.blank.parts }
