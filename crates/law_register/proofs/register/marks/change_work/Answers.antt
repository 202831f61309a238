use Rattle.std.proofs.Common.{◌∙◌, sym, ℕ, List, ap, cond, Some, is_some}
use Rattle.arrayvec.specs.declared.array_vec.ArrayVec.{ArrayVec}
use Rattle.std.specs.Map.{lookup}
use Rattle.std.specs.Str.{bytes_eq}
use Rattle.law_register.proofs.Puts.{set_is_put, text_put}
use Rattle.law_register.proofs.register.marks.change_work.Goals as goal

pub returns-in-Some-clause-marks : goal.returns-in-Some-clause-marks
returns-in-Some-clause-marks c = λ w.
    let bytes : ArrayVec ℕ 162 (Unit {0}) → List ℕ = λ k. k.items in
    let es = c.args.works.now.entries in
    let key : ArrayVec ℕ 162 (Unit {0}) = record { items = c.args.work.now } in
    let mark = c.work_after.result in
    text_put bytes (c.get_mut.follows.lender mark).entries es key mark w
    ((c.get_mut.follows.holds mark).0 ∙ set_is_put (λ x y. bytes_eq (bytes x) (bytes y)) key mark es (sym (ap is_some c.in-Some.ensures.value)))
    ∙ ap (λ m. cond (bytes_eq key.items w) (Some m) (lookup (λ k. bytes_eq w k.items) es)) c.work_after.ensures
