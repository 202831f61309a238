-- The works that are asked when an entry comes: those that name a provision, and the one that the entry concerns.
use Rattle.std.specs.Prelude.{◌≡◌, ◌&&◌, ◌||◌, not, ℕ, Bool, false, List, [], ◌∷◌, ◌++◌, Option, Some, None, map, option_map, if◌then◌else◌}
use Rattle.std.specs.List.{AllByRecursion, list_any}
use Rattle.std.specs.List.Sorted.{IsStrictlySortedBy}
use Rattle.std.specs.Option.{option_map_or, option_to_list}
use Rattle.std.specs.Str.{bytes_eq}
use Rattle.law_register.specs.declared.register.known.Known.{Known}
use Rattle.version_cache.specs.Works.{WorkValue}
use Rattle.law_office.specs.declared.line.DatedWork.{DatedWork}
use Rattle.law_office.specs.Line.{line_cmp}
use Rattle.law_office.specs.Tables.{Kept}

-- a work with the day of its act
abbrev pub dated_known : List ℕ → Known → DatedWork
dated_known work known = record { day = record { 0 = known.act.day }; work = work }

-- a work is the one that is concerned, if one is
abbrev pub is_that : Option Known → List ℕ → Bool
is_that concerned work = option_map_or (λ known. bytes_eq known.act.work work) concerned false

-- a work is asked: it is concerned, or what is kept of it says that it names a provision
abbrev pub is_asked : Kept → Option Known → List ℕ → Bool
is_asked kept concerned work = is_that concerned work || option_map_or (λ one. one.names) (kept work) false

-- a work of which this is kept, unless it is concerned, where it names a provision
abbrev pub naming : Option Known → List ℕ → WorkValue → List DatedWork
naming concerned work kept = if kept.names && not (is_that concerned work) then dated_known work kept.known ∷ [] else []

-- the same, if anything is kept of it
abbrev pub naming_if : Option Known → List ℕ → Option WorkValue → List DatedWork
naming_if concerned work None = []
naming_if concerned work (Some kept) = naming concerned work kept

-- of works those of which what is kept names a provision, but for the one that is concerned
abbrev pub all_naming : Kept → Option Known → List (List ℕ) → List DatedWork
all_naming kept concerned [] = []
all_naming kept concerned (work ∷ works) = naming_if concerned work (kept work) ++ all_naming kept concerned works

-- the one that is concerned, if one is
abbrev pub dated_if : Option Known → List DatedWork
dated_if None = []
dated_if (Some known) = dated_known known.act.work known ∷ []

-- what is known of a work then: of the one that is concerned what is said here
abbrev pub known_then : Kept → Option Known → List ℕ → Option Known
known_then kept concerned work = if is_that concerned work then concerned else option_map (λ one. one.known) (kept work)

-- a work is known then, and stands with the day of its act
abbrev pub IsDated : Kept → Option Known → DatedWork → Type 0
IsDated kept concerned one = (known : Known) × (known_then kept concerned one.work ≡ Some known) × (one ≡ dated_known one.work known)

-- each of these works is named once
abbrev pub AreOnce : List (List ℕ) → Type 0
AreOnce [] = Unit {0}
AreOnce (work ∷ works) = (list_any (λ other. bytes_eq other work) works ≡ false) × AreOnce works

-- these are the works that are asked, in line
pub record AreAsked (kept : Kept) (concerned : Option Known) (names : List DatedWork) : Type 0 where
  pub all : (work : List ℕ) → list_any (λ one. bytes_eq one.work work) names ≡ is_asked kept concerned work
  pub order : IsStrictlySortedBy line_cmp names
  pub once : AreOnce (map (λ d. d.work) names)
  pub dated : AllByRecursion (IsDated kept concerned) names

-- what is known now of works, as far as something is kept of them
abbrev pub known_of_all : Kept → List (List ℕ) → List Known
known_of_all kept [] = []
known_of_all kept (work ∷ works) = option_to_list (option_map (λ one. one.known) (kept work)) ++ known_of_all kept works

abbrev pub known_then_all : Kept → Option Known → List (List ℕ) → List Known
known_then_all kept concerned [] = []
known_then_all kept concerned (work ∷ works) = option_to_list (known_then kept concerned work) ++ known_then_all kept concerned works
