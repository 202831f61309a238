-- With one entry more a work is known still, and its tables are right before the day that the entry touches.
use Rattle.std.proofs.Common.{◌≡◌, ◌∙◌, ap, sym, subst, refl, ℕ, ◌+◌, true, List, [], ◌∷◌, ◌++◌, Option, Some, None, arith}
use Rattle.law_register.specs.declared.law.act.Act.{Act}
use Rattle.law_register.specs.declared.law.command.Command.{Command}
use Rattle.law_register.specs.declared.register.entry.Entry.{Entry}
use Rattle.law_register.specs.declared.register.known.Known.{Known}
use Rattle.law_register.specs.Answer.Touched.{touched_day}
use Rattle.law_register.specs.Register.KnownIds.{enacted, enacted_by, enacted_from, enacted_or, ids_of, known_at, known_by, known_ids}
use Rattle.law_register.specs.Register.LawList.{front, law_of, laws}
use Rattle.law_register.specs.Register.Verdicts.{is_legal}
use Rattle.law_register.proofs.Lists.{take_all}
use Rattle.law_register.proofs.Snoc.{laws_more}
use Rattle.version_cache.specs.Works.{AreRightIf, AreRightUntil, IsForIf, WorkValue, table_in}
use Rattle.version_cache.proofs.Agreeing.{right_until}
use Rattle.version_cache.proofs.OneMore.{one_more}

-- a work that law entries enact is enacted still when more come
enacts_still : (number : ℕ) (w : List ℕ) (xs ys : List Command) (f : ℕ × Act) → enacted_from number w xs ≡ Some f → enacted_from number w (xs ++ ys) ≡ Some f
enacts_still number w [] ys f h = absurd (let wrong : None ≡ Some f = h in cc)
enacts_still number w (x ∷ xs) ys f h = by (enacted_by w x) h (enacts_still (number + 1) w xs ys f)
  where
    by : (act : Option Act) → enacted_or number act (enacted_from (number + 1) w xs) ≡ Some f
        → (enacted_from (number + 1) w xs ≡ Some f → enacted_from (number + 1) w (xs ++ ys) ≡ Some f)
        → enacted_or number act (enacted_from (number + 1) w (xs ++ ys)) ≡ Some f
    by (Some act) is next = is
    by None is next = next is

-- what is known of a work by law entries, of which one enacts it
known_of : List ℕ → ℕ → List Command → ℕ × Act → Known
known_of w n ls f = record { act = f.1; enacted = f.0; viewpoint = n; front = n; mods = known_ids ls (ids_of w ls); source_days = [] }

enacts_by : (w : List ℕ) (v n : ℕ) (ls : List Command) (found : Option (ℕ × Act)) (k : Known) → known_by w v n ls found ≡ Some k → (f : ℕ × Act) × (found ≡ Some f)
enacts_by w v n ls None k is = absurd (let wrong : None ≡ Some k = is in cc)
enacts_by w v n ls (Some f) k is = (f, refl)

known_still : (es : List Entry) (e : Entry) (w : List ℕ) (old : Known) → known_at es w (front es) ≡ Some old
    → (new : Known) × (known_at (es ++ e ∷ []) w (front (es ++ e ∷ [])) ≡ Some new)
unfolding known_of
known_still es e w old was =
    let n : ℕ = front (es ++ e ∷ []) in
    let ls : List Command = laws (es ++ e ∷ []) in
    let before = enacts_by w (front es) (front es) (laws es) (enacted w (laws es)) old
    (sym (ap (λ xs. known_by w (front es) (front es) xs (enacted w xs)) (take_all (laws es) (front es) (omega arith))) ∙ was) in
    let now : enacted w ls ≡ Some before.0 = ap (enacted w) (laws_more es e) ∙ enacts_still 1 w (laws es) (law_of es e) before.0 before.1 in (
      known_of w n ls before.0,
      ap (λ xs. known_by w n n xs (enacted w xs)) (take_all ls n (omega arith)) ∙ ap (known_by w n n ls) now,
    )

pub tables_follow : (es : List Entry) (e : Entry) (w : List ℕ) (work : WorkValue) → is_legal es ≡ true → IsForIf (known_at es w (front es)) work
    → AreRightIf (known_at (es ++ e ∷ []) w (front (es ++ e ∷ []))) (touched_day es e) work
tables_follow es e w work legal is = by (known_at es w (front es)) refl is
  where
    by : (old : Option Known) → known_at es w (front es) ≡ old → IsForIf old work → AreRightIf (known_at (es ++ e ∷ []) w (front (es ++ e ∷ []))) (touched_day es e) work
    by None was is = absurd is
    by (Some old) was is =
        let still = known_still es e w old was in
        subst (λ now. AreRightIf now (touched_day es e) work) (sym still.1)
        (let right : AreRightUntil still.0 (touched_day es e) work = record {
          readings = is.tables.readings;
          right = λ reading.
              right_until old still.0 (touched_day es e) (table_in reading work) (is.tables.right reading)
              (one_more es e legal w (table_in reading work).reading old still.0 was still.1);
        } in right)
