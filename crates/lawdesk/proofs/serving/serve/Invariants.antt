-- The ledger of the steps of an opening is the one that its blank begins.
use Rattle.lawdesk.proofs.serving.serve.Given as goal

abbrev pub ghosts-open_book : goal.ghosts-open_book
ghosts-open_book g a = record { name = a.blank.name; parts = a.blank.parts }
