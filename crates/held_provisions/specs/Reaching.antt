-- What an entry touches, as it is found along a line: of each work ahead its IRI and days are asked alone.
use Rattle.std.specs.Prelude.{◌≡◌, ℕ, Bool, true, ◌||◌, List, [], ◌∷◌, ◌++◌, filter, Option, Some, None, if◌then◌else◌}
use Rattle.std.specs.List.{AllByRecursion}
use Rattle.law_register.specs.declared.register.entry.Entry.{Entry}
use Rattle.law_register.specs.declared.register.known.Known.{Known}
use Rattle.law_register.specs.Answer.Touched.{sooner, with_day}
use Rattle.held_provisions.specs.declared.touching.Reached.{Reached}
use Rattle.law_register.specs.Provisions.Depending.{depends_in}
use Rattle.law_register.specs.Provisions.Line.{line}
use Rattle.law_register.specs.Provisions.Looking.{names_any}
use Rattle.law_register.specs.Provisions.Touching.{is_concerned, own, reach}
use Rattle.law_register.specs.Register.LawList.{laws}
use Rattle.version_cache.specs.Works.{IsAlike}

-- of works ahead of one, the first day from which it is reached through one on which it depends, in the one line or in the other
abbrev pub first_reached : (old new : List Known) → List ℕ → List Reached → Option ℕ
first_reached old new work [] = None
first_reached old new work (r ∷ rs) =
    sooner (if depends_in old work r.work || depends_in new work r.work then r.reached else None) (first_reached old new work rs)

-- a work with its days, from the touched day
abbrev pub reached_as : List Entry → Entry → List ℕ → Option ℕ → Reached
reached_as entries entry work touched =
    record { work = work; touched = touched; reached = reach entries entry work touched }

-- the same by the works ahead of it
abbrev pub reached_next : List Entry → Entry → (old new : List Known) → List Reached → List ℕ → Reached
reached_next entries entry old new ahead work =
    reached_as entries entry work (sooner (own entries entry work) (first_reached old new work ahead))

-- works with their days, and behind them more works, each by those ahead of it
abbrev pub reached_after : List Entry → Entry → (old new : List Known) → List Reached → List Known → List Reached
reached_after entries entry old new ahead [] = ahead
reached_after entries entry old new ahead (known ∷ works) =
    reached_after entries entry old new (ahead ++ reached_next entries entry old new ahead known.act.work ∷ []) works

-- those that are touched
abbrev pub days_told : List Reached → List (List ℕ × ℕ)
days_told [] = []
days_told (r ∷ rs) = with_day (Some r.work) r.touched ++ days_told rs

-- a work of a line is asked when an entry comes: it names a provision, or the entry concerns it
abbrev pub is_asked : List Entry → Entry → Known → Bool
is_asked entries entry known = names_any known || is_concerned entries entry known.act.work

-- works are known alike by themselves, one by one
abbrev pub AreAlike : List Known → List Known → Type 0
AreAlike [] [] = Unit {0}
AreAlike [] (other ∷ others) = ⊥
AreAlike (known ∷ works) [] = ⊥
AreAlike (known ∷ works) (other ∷ others) = IsAlike known other × AreAlike works others

-- some works of the lines without an entry and with it are enough to tell what the entry touches: they are known alike to those of the lines
-- that are kept, in their order, and each that is asked is kept
pub record AreEnough (entries : List Entry) (entry : Entry) (old new : List Known) : Type 0 where
  pub keeps : List ℕ → Bool
  pub asked_before : AllByRecursion (λ known. is_asked entries entry known ≡ true → keeps known.act.work ≡ true) (line (laws entries))
  pub asked_then :
      AllByRecursion (λ known. is_asked entries entry known ≡ true → keeps known.act.work ≡ true) (line (laws (entries ++ entry ∷ [])))
  pub alike_before : AreAlike old (filter (λ known. keeps known.act.work) (line (laws entries)))
  pub alike_then : AreAlike new (filter (λ known. keeps known.act.work) (line (laws (entries ++ entry ∷ []))))
