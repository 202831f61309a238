-- What is found along a line is what an entry touches.
use Rattle.std.proofs.Common.{◌≡◌, ◌∙◌, sym, ap, refl, ℕ, ◌||◌, cond, List, [], ◌∷◌, ◌++◌, map, Some, None}
use Rattle.std.proofs.lemmas.List.{map_push}
use Rattle.law_register.specs.declared.register.entry.Entry.{Entry}
use Rattle.law_register.specs.declared.register.known.Known.{Known}
use Rattle.law_register.specs.Answer.Touched.{sooner, with_day}
use Rattle.law_register.specs.Register.LawList.{laws}
use Rattle.held_provisions.specs.declared.touching.Reached.{Reached}
use Rattle.held_provisions.specs.Reaching as reaching
use Rattle.law_register.specs.Provisions.Depending.{depends_in}
use Rattle.law_register.specs.Provisions.Line.{line}
use Rattle.law_register.specs.Provisions.Touching as spec
use Rattle.law_register.specs.Provisions.Touching.{WorkTouched, own, touched_along, touched_works}

abbrev told : WorkTouched → Reached
told t = record { work = t.known.act.work; touched = t.touched; reached = t.reached }

module _ (entries : List Entry) (entry : Entry) (old new : List Known) where
  told_first : (work : List ℕ) (ts : List WorkTouched) → spec.first_reached old new work ts ≡ reaching.first_reached old new work (map told ts)
  told_first work [] = refl
  told_first work (t ∷ ts) =
      ap (sooner (cond (depends_in old work t.known.act.work || depends_in new work t.known.act.work) t.reached None)) (told_first work ts)

  told_after : (ts : List WorkTouched) (works : List Known)
      → map told (spec.touched_after entries entry old new ts works) ≡ reaching.reached_after entries entry old new (map told ts) works
  told_after ts [] = refl
  told_after ts (known ∷ works) =
      told_after (ts ++ spec.touched_as entries entry known (spec.touched_by entries entry old new ts known.act.work) ∷ []) works
      ∙ ap (λ rs. reaching.reached_after entries entry old new rs works)
      (map_push told ts (spec.touched_as entries entry known (spec.touched_by entries entry old new ts known.act.work))
      ∙ ap (λ first. map told ts ++ reaching.reached_as entries entry known.act.work (sooner (own entries entry known.act.work) first) ∷ [])
      (told_first known.act.work ts))

told_days : (ts : List WorkTouched) → spec.days_told ts ≡ reaching.days_told (map told ts)
told_days [] = refl
told_days (t ∷ ts) = ap (λ ds. with_day (Some t.known.act.work) t.touched ++ ds) (told_days ts)

of_lines : (entries : List Entry) (entry : Entry)
    → reaching.days_told (reaching.reached_after entries entry (line (laws entries)) (line (laws (entries ++ entry ∷ []))) [] (line (laws (entries ++ entry ∷ []))))
    ≡ touched_works entries entry
unfolding touched_works touched_along
of_lines entries entry =
    sym (told_days (touched_along entries entry)
    ∙ ap reaching.days_told (told_after entries entry (line (laws entries)) (line (laws (entries ++ entry ∷ []))) [] (line (laws (entries ++ entry ∷ [])))))

-- the works that are found along the lines of an entry are those that it touches
pub found_along : (entries : List Entry) (entry : Entry) (old new : List Known) → old ≡ line (laws entries) → new ≡ line (laws (entries ++ entry ∷ []))
    → reaching.days_told (reaching.reached_after entries entry old new [] new) ≡ touched_works entries entry
found_along entries entry old new was is =
    ap (λ ks. reaching.days_told (reaching.reached_after entries entry ks new [] new)) was
    ∙ ap (λ ks. reaching.days_told (reaching.reached_after entries entry (line (laws entries)) ks [] ks)) is
    ∙ of_lines entries entry
