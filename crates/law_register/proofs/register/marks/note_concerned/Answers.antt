use Rattle.std.proofs.Common.{arith}
use Rattle.law_register.proofs.register.marks.note_concerned.Goals as goal

pub note_work-requires-clause-few : goal.note_work-requires-clause-few
note_work-requires-clause-few c = omega (arith, c.requires.few c.in-Some.work.now, c.requires.count)
