-- The ledger of a worker's steps is the one that its blank begins.
use Rattle.desk_serving.proofs.working.ServingDutyHand.attend.Given as goal

abbrev pub ghosts-answer_counted : goal.ghosts-answer_counted
ghosts-answer_counted g a = record { name = a.blank.name; parts = a.blank.parts }
