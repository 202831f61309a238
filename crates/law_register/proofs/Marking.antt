-- The steps of the law entries lead to them, once one more entry stands behind the others; and what the step of each tells.
use Rattle.std.proofs.Common.{◌≡◌, ◌∙◌, sym, ap, subst, ℕ, zero, suc, ◌+◌, ◌-◌, ◌≤◌, true, false, List, [], ◌∷◌, ◌++◌, length, take, drop, Option, Some, None, slice_get, refl, append_assoc, arith}
use Rattle.std.proofs.Math.Seq.{drop-append_seam}
use Rattle.std.proofs.lemmas.List.{append-nil, length-append, length-drop, drop-append-le, take-append-le}
use Rattle.law_register.specs.declared.law.command.Command.{Command}
use Rattle.law_register.specs.declared.law.command.Command.TheVariants.{Enact, Record, Correct, Withdraw, Restore, DraftAdd, DraftDrop, File}
use Rattle.law_register.specs.declared.register.entry.Entry.{Entry}
use Rattle.law_register.specs.declared.register.indexes.BodyMark.{BodyMark}
use Rattle.law_register.specs.declared.register.indexes.StepMark.{StepMark}
use Rattle.law_register.specs.declared.register.indexes.WorkMark.{WorkMark}
use Rattle.law_register.specs.declared.law.modification.Modification.{Modification}
use Rattle.law_register.specs.Register.Indexes.{body_of, bodies_at, last_in, recorded_for, BodiesStand, LawStands, StepStands, StepsStand}
use Rattle.law_register.specs.Register.Concerns.{is_named}
use Rattle.law_register.specs.Register.Marks.{last_before}
use Rattle.law_register.specs.Register.Verdicts.{last_on}
use Rattle.law_register.specs.Register.Concerns.{concerns}
use Rattle.law_register.proofs.Puts.{bytes_same}
use Rattle.law_register.proofs.Lists.{take_all}
use Rattle.law_register.proofs.Steps.{told_stays}

-- a step still leads to its law entry
bodies_stay : (es : List Entry) (e : Entry) (bodies : List BodyMark) (mods : List Modification) → BodiesStand es bodies mods → BodiesStand (es ++ e ∷ []) bodies mods
bodies_stay es e [] [] h = tt
bodies_stay es e (b ∷ bodies) (m ∷ mods) h = (told_stays (body_of b.place) es e b.entry m h.0, bodies_stay es e bodies mods h.1)
bodies_stay es e [] (m ∷ mods) h = h
bodies_stay es e (b ∷ bodies) [] h = h

law_stays : (es : List Entry) (e : Entry) (at : ℕ) (bodies : List BodyMark) (law : Command) → LawStands es at bodies law → LawStands (es ++ e ∷ []) at bodies law
law_stays es e at bodies (Record work mods) h = (told_stays recorded_for es e at work h.0, bodies_stay es e bodies mods h.1)
law_stays es e at bodies (Enact act) h = (told_stays (λ c. Some c) es e at (Enact act) h.0, h.1)
law_stays es e at bodies (Correct id body) h = (told_stays (λ c. Some c) es e at (Correct id body) h.0, h.1)
law_stays es e at bodies (Withdraw id) h = (told_stays (λ c. Some c) es e at (Withdraw id) h.0, h.1)
law_stays es e at bodies (Restore id) h = (told_stays (λ c. Some c) es e at (Restore id) h.0, h.1)
law_stays es e at bodies (File work seen) h = h
law_stays es e at bodies (DraftAdd work body) h = h
law_stays es e at bodies (DraftDrop item) h = h

same_bodies : (bodies more : List BodyMark) (s : StepMark) → s.first ≤ s.until → s.until ≤ length bodies → bodies_at (bodies ++ more) s ≡ bodies_at bodies s
same_bodies bodies more s first until =
    ap (take (s.until - s.first)) (drop-append-le s.first bodies more (omega (arith, first, until)))
    ∙ take-append-le (s.until - s.first) (drop s.first bodies) more (omega (arith, first, until, length-drop s.first bodies))

step_stays : (es : List Entry) (e : Entry) (bodies more : List BodyMark) (before : List Command) (s : StepMark) (law : Command)
    → StepStands es bodies before s law → StepStands (es ++ e ∷ []) (bodies ++ more) before s law
step_stays es e bodies more before s law h = record {
  law = subst (λ bs. LawStands (es ++ e ∷ []) s.entry bs law) (sym (same_bodies bodies more s h.first h.until)) (law_stays es e s.entry (bodies_at bodies s) law h.law);
  first = h.first;
  until = omega (arith, h.until, length-append bodies more);
  before = h.before;
}

pub steps_stay : (es : List Entry) (e : Entry) (bodies more : List BodyMark) (before : List Command) (steps : List StepMark) (ls : List Command)
    → StepsStand es bodies before steps ls → StepsStand (es ++ e ∷ []) (bodies ++ more) before steps ls
steps_stay es e bodies more before [] [] h = tt
steps_stay es e bodies more before (s ∷ steps) (l ∷ ls) h =
    (step_stays es e bodies more before s l h.0, steps_stay es e bodies more (before ++ l ∷ []) steps ls h.1)
steps_stay es e bodies more before [] (l ∷ ls) h = h
steps_stay es e bodies more before (s ∷ steps) [] h = h

-- one more step
steps_more : (es : List Entry) (bodies : List BodyMark) (before : List Command) (steps : List StepMark) (ls : List Command) (s : StepMark) (l : Command)
    → StepsStand es bodies before steps ls → StepStands es bodies (before ++ ls) s l → StepsStand es bodies before (steps ++ s ∷ []) (ls ++ l ∷ [])
steps_more es bodies before [] [] s l h new = (subst (λ b. StepStands es bodies b s l) (append-nil before) new, tt)
steps_more es bodies before (x ∷ steps) (y ∷ ls) s l h new =
    (h.0, steps_more es bodies (before ++ y ∷ []) steps ls s l h.1 (subst (λ b. StepStands es bodies b s l) (sym (append_assoc before (y ∷ []) ls)) new))
steps_more es bodies before [] (y ∷ ls) s l h new = absurd h
steps_more es bodies before (x ∷ steps) [] s l h new = absurd h

new_bodies_at : (bodies more : List BodyMark) (s : StepMark) → s.first ≡ length bodies → s.until ≡ length bodies + length more → bodies_at (bodies ++ more) s ≡ more
new_bodies_at bodies more s first until =
    ap (λ n. take (s.until - n) (drop n (bodies ++ more))) first
    ∙ ap (take (s.until - length bodies)) (drop-append_seam bodies more)
    ∙ take_all more (s.until - length bodies) (omega (arith, until))

last_named : (works : List ℕ → Option WorkMark) (w : List ℕ) (own : Option (List ℕ)) → is_named w own ≡ true → last_before works own ≡ last_in (works w)
last_named works w None h = absurd (let no : false ≡ true = h in cc)
last_named works w (Some own) h = ap (λ x. last_in (works x)) (bytes_same own w h)

pub new_step_stands : (es : List Entry) (e : Entry) (bodies more : List BodyMark) (steps : List StepMark) (ls : List Command) (s : StepMark) (law : Command)
    (own : Option (List ℕ)) (works : List ℕ → Option WorkMark)
    → ((w : List ℕ) → concerns ls w law ≡ is_named w own) → ((w : List ℕ) → last_in (works w) ≡ last_on w ls)
    → s.entry ≡ length es → s.first ≡ length bodies → s.until ≡ length bodies + length more → s.before ≡ last_before works own
    → LawStands (es ++ e ∷ []) (length es) more law → StepsStand es bodies [] steps ls
    → StepsStand (es ++ e ∷ []) (bodies ++ more) [] (steps ++ s ∷ []) (ls ++ law ∷ [])
new_step_stands es e bodies more steps ls s law own works named last at first until before stands h =
    let L : ℕ → Type 0 = λ n. LawStands (es ++ e ∷ []) n more law in
    steps_more (es ++ e ∷ []) (bodies ++ more) [] steps ls s law (steps_stay es e bodies more [] steps ls h) (record {
      law = subst (λ bs. LawStands (es ++ e ∷ []) s.entry bs law) (sym (new_bodies_at bodies more s first until)) (subst L (sym at) stands);
      first = omega (arith, first, until);
      until = omega (arith, until, length-append bodies more);
      before = λ w is. before ∙ last_named works w own (sym (named w) ∙ is) ∙ last w;
    })

-- the step of each law entry
pub steps_length : (es : List Entry) (bodies : List BodyMark) (before : List Command) (steps : List StepMark) (ls : List Command) → StepsStand es bodies before steps ls → length steps ≡ length ls
steps_length es bodies before [] [] h = refl
steps_length es bodies before (s ∷ steps) (l ∷ ls) h = ap suc (steps_length es bodies (before ++ l ∷ []) steps ls h.1)
steps_length es bodies before [] (l ∷ ls) h = absurd h
steps_length es bodies before (s ∷ steps) [] h = absurd h

step_from : (es : List Entry) (bodies : List BodyMark) (before : List Command) (steps : List StepMark) (ls : List Command) (n : ℕ) (s : StepMark) (l : Command)
    → StepsStand es bodies before steps ls → slice_get steps n ≡ Some s → slice_get ls n ≡ Some l → StepStands es bodies (before ++ take n ls) s l
step_from es bodies before [] ls n s l h at there = absurd (let no : None ≡ Some s = at in cc)
step_from es bodies before (x ∷ steps) [] n s l h at there = absurd h
step_from es bodies before (x ∷ steps) (y ∷ ls) zero s l h at there =
    let step : x ≡ s = cc in
    let law : y ≡ l = cc in
    subst (λ b. StepStands es bodies b s l) (sym (append-nil before)) (subst (StepStands es bodies before s) law (subst (λ k. StepStands es bodies before k y) step h.0))
step_from es bodies before (x ∷ steps) (y ∷ ls) (suc n) s l h at there =
    subst (λ b. StepStands es bodies b s l) (append_assoc before (y ∷ []) (take n ls)) (step_from es bodies (before ++ y ∷ []) steps ls n s l h.1 at there)

pub step_at : (es : List Entry) (bodies : List BodyMark) (steps : List StepMark) (ls : List Command) (n : ℕ) (s : StepMark) (l : Command)
    → StepsStand es bodies [] steps ls → slice_get steps n ≡ Some s → slice_get ls n ≡ Some l → StepStands es bodies (take n ls) s l
step_at es bodies steps ls n s l h at there = step_from es bodies [] steps ls n s l h at there
