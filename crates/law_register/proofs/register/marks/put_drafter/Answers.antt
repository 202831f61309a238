use Rattle.std.proofs.Common.{ℕ, List}
use Rattle.arrayvec.specs.declared.array_vec.ArrayVec.{ArrayVec}
use Rattle.law_register.proofs.Puts.{text_put}
use Rattle.law_register.proofs.register.marks.put_drafter.Goals as goal

pub returns-in-Ok-clause-marks : goal.returns-in-Ok-clause-marks
returns-in-Ok-clause-marks c = λ d.
    let bytes : ArrayVec ℕ 32 (Unit {0}) → List ℕ = λ k. k.items in
    text_put bytes c.insert.new.self.entries c.args.drafters.now.entries c.args.drafter c.args.mark d c.in-Ok.ensures.entries
