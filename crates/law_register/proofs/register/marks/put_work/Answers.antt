use Rattle.std.proofs.Common.{◌≡◌, ℕ, List}
use Rattle.arrayvec.specs.declared.array_vec.ArrayVec.{ArrayVec}
use Rattle.indexmap.specs.IndexMap.{insert_entry}
use Rattle.std.specs.Str.{bytes_eq}
use Rattle.law_register.proofs.Puts.{on_ok, text_put}
use Rattle.law_register.proofs.register.marks.put_work.Goals as goal

pub returns-clause-marks : goal.returns-clause-marks
returns-clause-marks c = λ w.
    let bytes : ArrayVec ℕ 162 (Unit {0}) → List ℕ = λ k. k.items in
    let es = c.args.works.now.entries in
    text_put bytes c.insert.new.self.entries es c.args.work c.args.mark w
    (on_ok c.insert.result (c.insert.new.self.entries ≡ insert_entry (λ x y. bytes_eq (bytes x) (bytes y)) es c.args.work c.args.mark)
    (c.insert.ensures.succeeds c.requires) c.insert.ensures.entries)
