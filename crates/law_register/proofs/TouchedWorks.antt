-- The works that an entry touches, and their days.
use Rattle.std.proofs.Common.{◌≡◌, sym, ap, ℕ, List, [], ◌∷◌, map, Option, Some, None, option_map, refl}
use Rattle.std.specs.List.{AllByRecursion}
use Rattle.std.specs.Option.{option_to_list}
use Rattle.law_register.specs.declared.law.command.Command.{Command}
use Rattle.law_register.specs.declared.law.command.Command.TheVariants.{Enact, Record, Correct, Withdraw, Restore, DraftAdd, DraftDrop, File}
use Rattle.law_register.specs.declared.register.entry.Entry.{Entry}
use Rattle.law_register.specs.Answer.Touched.{day_changed, day_corrected, day_entered, day_known, sooner, touched_day, touched_days, with_day, work_entered}
use Rattle.law_register.specs.Register.KnownIds.{IdFacts, facts_of}
use Rattle.law_register.specs.Register.LawList.{law_of, laws}

abbrev day_list : List (List ℕ × ℕ) → List ℕ
day_list touched = map (λ (t : List ℕ × ℕ). t.1) touched

named : (w : List ℕ) (day : Option ℕ) → day_list (with_day (Some w) day) ≡ option_to_list day
named w None = refl
named w (Some day) = refl

-- of an id that is not recorded there is neither work nor day
by_facts : (f : Option IdFacts) (day : Option ℕ) → (f ≡ None → day ≡ None) → day_list (with_day (option_map (λ (x : IdFacts). x.work) f) day) ≡ option_to_list day
by_facts None day none = sym (ap option_to_list (none refl))
by_facts (Some f) day none = named f.work day

law_days : (es : List Entry) (l : Command) → day_list (with_day (work_entered es (l ∷ [])) (day_changed es l)) ≡ option_to_list (day_changed es l)
law_days es (Enact act) = refl
law_days es (Record w bodies) = named w (day_changed es (Record w bodies))
law_days es (File w seen) = refl
law_days es (DraftAdd w body) = refl
law_days es (DraftDrop item) = refl
law_days es (Correct id body) =
    by_facts (facts_of id (laws es)) (day_changed es (Correct id body)) (λ none. ap (λ f. sooner (day_known es id f) (day_corrected es id body f)) none)
law_days es (Withdraw id) = by_facts (facts_of id (laws es)) (day_changed es (Withdraw id)) (λ none. ap (day_known es id) none)
law_days es (Restore id) = by_facts (facts_of id (laws es)) (day_changed es (Restore id)) (λ none. ap (day_known es id) none)

list_days : (es : List Entry) (ls : List Command) → day_list (with_day (work_entered es ls) (day_entered es ls)) ≡ option_to_list (day_entered es ls)
list_days es [] = refl
list_days es (l ∷ ls) = law_days es l

pub days_are : (es : List Entry) (e : Entry) → day_list (touched_days es e) ≡ option_to_list (touched_day es e)
unfolding touched_days touched_day
days_are es e = list_days es (law_of es e)

pub works_are : (es : List Entry) (e : Entry) → AllByRecursion (λ (t : List ℕ × ℕ). work_entered es (law_of es e) ≡ Some t.0) (touched_days es e)
unfolding touched_days
works_are es e = by (work_entered es (law_of es e)) (touched_day es e)
  where
    by : (named : Option (List ℕ)) (day : Option ℕ) → AllByRecursion (λ (t : List ℕ × ℕ). named ≡ Some t.0) (with_day named day)
    by None day = tt
    by (Some w) None = tt
    by (Some w) (Some day) = (refl, tt)
