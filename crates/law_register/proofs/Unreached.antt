-- An entry touches nothing where it touches no work by itself, and none depends on what it reaches.
use Rattle.std.proofs.Common.{◌≡◌, ◌∙◌, sym, ap, ap₂, ℕ, Bool, true, false, cond, ◌||◌, is_some, List, [], ◌∷◌, ◌++◌, Option, Some, None, refl}
use Rattle.std.specs.List.{AllByRecursion, list_any}
use Rattle.law_register.specs.declared.law.command.Command.{Command}
use Rattle.law_register.specs.declared.register.entry.Entry.{Entry}
use Rattle.law_register.specs.declared.register.known.Known.{Known}
use Rattle.law_register.specs.Answer.Touched.{sooner, touched_day, with_day, work_entered}
use Rattle.law_register.specs.Provisions.Depending.{depends_in}
use Rattle.law_register.specs.Provisions.Line.{line}
use Rattle.law_register.specs.Provisions.Touching.{WorkTouched, days_told, first_reached, flag_day_entered, own, reach, touched_after, touched_along, touched_as, touched_by, touched_works}
use Rattle.law_register.specs.Register.Concerns.{is_named}
use Rattle.law_register.specs.Register.KnownIds.{enacted_by}
use Rattle.law_register.specs.Register.LawList.{law_of, laws}
use Rattle.law_register.proofs.Snoc.{laws_more}

pub all_and_one : {A : Type 0} (P : A → Type 0) (xs : List A) (x : A) → AllByRecursion P xs → P x → AllByRecursion P (xs ++ x ∷ [])
all_and_one P [] x all here = (here, tt)
all_and_one P (y ∷ ys) x all here = (all.0, all_and_one P ys x all.1 here)

module _ (es : List Entry) (e : Entry) (old new : List Known)
    (own_none : (w : List ℕ) → own es e w ≡ None)
    (apart : (x w : List ℕ) → cond (depends_in old x w || depends_in new x w) (reach es e w None) None ≡ None) where
  abbrev IsFree : WorkTouched → Type 0
  IsFree t = (t.touched ≡ None) × (t.reached ≡ reach es e t.known.act.work None)

  none_reached : (x : List ℕ) (ts : List WorkTouched) → AllByRecursion IsFree ts → first_reached old new x ts ≡ None
  none_reached x [] all = refl
  none_reached x (t ∷ ts) all =
      ap (λ day. sooner (cond (depends_in old x t.known.act.work || depends_in new x t.known.act.work) day None) (first_reached old new x ts)) all.0.1
      ∙ ap (λ day. sooner day (first_reached old new x ts)) (apart x t.known.act.work)
      ∙ none_reached x ts all.1

  not_touched : (ahead : List WorkTouched) (known : Known) → AllByRecursion IsFree ahead → touched_by es e old new ahead known.act.work ≡ None
  not_touched ahead known all = ap₂ sooner (own_none known.act.work) (none_reached known.act.work ahead all)

  all_free : (ahead : List WorkTouched) (works : List Known) → AllByRecursion IsFree ahead → AllByRecursion IsFree (touched_after es e old new ahead works)
  all_free ahead [] all = all
  all_free ahead (known ∷ works) all =
      let day : touched_by es e old new ahead known.act.work ≡ None = not_touched ahead known all in
      all_free (ahead ++ touched_as es e known (touched_by es e old new ahead known.act.work) ∷ []) works
      (all_and_one IsFree ahead (touched_as es e known (touched_by es e old new ahead known.act.work)) all
      (day, ap (reach es e known.act.work) day))

  told_free : (ts : List WorkTouched) → AllByRecursion IsFree ts → days_told ts ≡ []
  told_free [] all = refl
  told_free (t ∷ ts) all = ap (λ day. with_day (Some t.known.act.work) day ++ days_told ts) all.0.0 ∙ told_free ts all.1

  pub told_none : days_told (touched_after es e old new [] new) ≡ []
  told_none = told_free (touched_after es e old new [] new) (all_free [] new tt)

pub either_none : {A : Type 0} (b : Bool) (x : Option A) → x ≡ None → cond b x None ≡ None
either_none true x none = none
either_none false x none = refl

-- an entry that is nothing to the law
module _ (es : List Entry) (e : Entry) (is : law_of es e ≡ []) where
  none_own : (w : List ℕ) → own es e w ≡ None
  none_own w = ap (λ law. cond (is_named w (work_entered es law)) (touched_day es e) None) is

  reaches_none : (w : List ℕ) → reach es e w None ≡ None
  reaches_none w =
      ap (λ law. cond (list_any (λ command. is_some (enacted_by w command)) law) (Some 1)
      (sooner None (cond (is_named w (work_entered es law)) (flag_day_entered es law) None))) is

  pub drafts_touch_none : touched_works es e ≡ []
  unfolding touched_works touched_along
  drafts_touch_none =
      told_none es e (line (laws es)) (line (laws (es ++ e ∷ []))) none_own
      (λ x w. either_none (depends_in (line (laws es)) x w || depends_in (line (laws (es ++ e ∷ []))) x w) (reach es e w None) (reaches_none w))

-- the law number of an entry is nothing to what it touches
module _ (es : List Entry) (e : Entry) (law : Option ℕ) where
  abbrev numbered : Entry
  numbered = record e { law = law }

  after_numbered : (old new : List Known) (ahead : List WorkTouched) (works : List Known)
      → touched_after es numbered old new ahead works ≡ touched_after es e old new ahead works
  unfolding touched_day
  after_numbered old new ahead [] = refl
  after_numbered old new ahead (known ∷ works) =
      after_numbered old new (ahead ++ touched_as es e known (touched_by es e old new ahead known.act.work) ∷ []) works

  pub same_law : laws (es ++ record e { law = law } ∷ []) ≡ laws (es ++ e ∷ [])
  same_law = laws_more es numbered ∙ sym (laws_more es e)

  pub same_works : touched_works es (record e { law = law }) ≡ touched_works es e
  unfolding touched_works touched_along
  same_works =
      ap (λ ls. days_told (touched_after es numbered (line (laws es)) (line ls) [] (line ls))) same_law
      ∙ ap days_told (after_numbered (line (laws es)) (line (laws (es ++ e ∷ []))) [] (line (laws (es ++ e ∷ []))))
