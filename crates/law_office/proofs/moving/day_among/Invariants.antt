-- None of those passed has the name, so what is left decides.
use Rattle.std.proofs.Common.{◌≡◌, drop}
use Rattle.law_register.specs.Answer.Touched.{day_among}
use Rattle.law_office.proofs.moving.day_among.Given as goal

abbrev pub invariant-loop-one : goal.invariant-loop-one
invariant-loop-one l = day_among (drop l.one-index l.one-items) l.work ≡ day_among l.touched l.work
