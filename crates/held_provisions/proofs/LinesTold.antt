-- The texts of a line on a day, and the days of its works, one for each work in order.
use Rattle.std.proofs.Common.{◌≡◌, ◌∙◌, sym, ap, refl, ℕ, List, [], ◌∷◌, ◌++◌, append-nil, map}
use Rattle.std.specs.List.{AllByRecursion}
use Rattle.law_register.specs.declared.answer.question.Reading.{Reading}
use Rattle.law_register.specs.declared.register.known.Known.{Known}
use Rattle.held_provisions.specs.Kept.{text_of}
use Rattle.law_register.specs.Provisions.Depending.{WorkDays, breakpoints_of, days_after, days_along, work_days}
use Rattle.law_register.specs.Provisions.Line.{IsLine}
use Rattle.law_register.specs.Provisions.Trees.{WorkText, text_on, texts_after, trees, version_in}
use Rattle.source_provisions.proofs.Ahead.{each_of_all}
use Rattle.source_provisions.proofs.Days.{days_of_all}

-- a work of a line with its text of a day
abbrev pub text_in_line : List Known → Reading → ℕ → Known → WorkText
text_in_line line reading day known = text_of known (version_in line known reading day)

-- a work of a line with its days
abbrev pub days_in_line : List Known → Known → WorkDays
days_in_line line known = record { known = known; days = breakpoints_of line known }

-- one more, and the rest
pub one_more : {A : Type 0} (f : A → Known) (xs : List A) (a : A) (works : List Known) → map f (xs ++ a ∷ []) ++ works ≡ map f xs ++ f a ∷ works
one_more f [] a works = refl
one_more f (x ∷ xs) a works = ap (λ (ks : List Known). f x ∷ ks) (one_more f xs a works)

module _ (line : List Known) (reading : Reading) (day : ℕ) where
  texts_known : (texts : List WorkText) (works : List Known)
      → map (λ (t : WorkText). t.known) (texts_after line reading day texts works) ≡ map (λ (t : WorkText). t.known) texts ++ works
  texts_known texts [] = sym (append-nil (map (λ (t : WorkText). t.known) texts))
  texts_known texts (known ∷ works) =
      texts_known (texts ++ text_on line reading day texts known ∷ []) works
      ∙ one_more (λ (t : WorkText). t.known) texts (text_on line reading day texts known) works

  by_known : (texts : List WorkText) → AllByRecursion (λ (t : WorkText). t.version ≡ version_in line t.known reading day) texts
      → texts ≡ map (text_in_line line reading day) (map (λ (t : WorkText). t.known) texts)
  by_known [] all = refl
  by_known (t ∷ ts) all =
      ap (λ v. text_of t.known v ∷ ts) all.0 ∙ ap (λ (us : List WorkText). text_in_line line reading day t.known ∷ us) (by_known ts all.1)

  pub texts_told : IsLine line → trees line reading day ≡ map (text_in_line line reading day) line
  unfolding trees
  texts_told is =
      by_known (texts_after line reading day [] line) (each_of_all line reading day is.ascends)
      ∙ ap (map (text_in_line line reading day)) (texts_known [] line)

module _ (line : List Known) where
  days_known : (ahead : List WorkDays) (works : List Known)
      → map (λ (w : WorkDays). w.known) (days_after line ahead works) ≡ map (λ (w : WorkDays). w.known) ahead ++ works
  days_known ahead [] = sym (append-nil (map (λ (w : WorkDays). w.known) ahead))
  days_known ahead (known ∷ works) =
      days_known (ahead ++ work_days line ahead known ∷ []) works
      ∙ one_more (λ (w : WorkDays). w.known) ahead (work_days line ahead known) works

  days_by_known : (ws : List WorkDays) → AllByRecursion (λ (w : WorkDays). w.days ≡ breakpoints_of line w.known) ws
      → ws ≡ map (days_in_line line) (map (λ (w : WorkDays). w.known) ws)
  days_by_known [] all = refl
  days_by_known (w ∷ ws) all =
      ap (λ ds. (let x : WorkDays = record { known = w.known; days = ds } in x) ∷ ws) all.0
      ∙ ap (λ (us : List WorkDays). days_in_line line w.known ∷ us) (days_by_known ws all.1)

  known_along : map (λ (w : WorkDays). w.known) (days_along line) ≡ line
  unfolding days_along
  known_along = days_known [] line

  pub days_told : IsLine line → days_along line ≡ map (days_in_line line) line
  days_told is = days_by_known (days_along line) (days_of_all line is) ∙ ap (map (days_in_line line)) known_along
