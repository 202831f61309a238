-- The IRIs of expressions: what they say, and how they are spelled.
use Rattle.std.specs.Prelude.{◌≡◌, ◌⊎◌, IsTrue, IfSome, ℕ, ◌+◌, ◌-◌, ◌==◌, Bool, true, ◌&&◌, ◌||◌, List, [], ◌∷◌, ◌++◌, length, take, slice_index, codes, Option, Some, None, unwrap_or, Ok, is_ok, if◌then◌else◌}
use Rattle.std.specs.List.{list_all, after_first}
use Rattle.std.specs.Char.{is_ascii_lowercase}
use Rattle.desk_base.specs.Days.{IsDay, day_of, day_text}
use Rattle.frbr_names.specs.declared.fault.NameRule.TheVariants.{BadDate, BadNumber, BadLanguage, OtherComponent, BadPortion}
use Rattle.frbr_names.specs.Reads.{Read, ◌>>=◌, ◌>>◌, fault_at, place_of, or_fault, unless_broken}
use Rattle.frbr_names.specs.Parts.{part_of, behind_part, behind_slash, after_front}
use Rattle.frbr_names.specs.Rules.{is_number, is_portion}
use Rattle.frbr_names.specs.Works.{Work, Front, front_of, work_of}

-- what the IRI of an expression says: its work, its language, the day of its version and its portion
pub record Expression : Type 0 where
  pub work : Work
  pub language : List ℕ
  pub version : Option ℕ
  pub portion : Option (List ℕ)

-- the language that a part begins with: three lower-case letters before an `@`
unfoldable pub language_of : List ℕ → Option (List ℕ)
language_of (first ∷ second ∷ third ∷ sign ∷ rest) =
    if is_ascii_lowercase first && is_ascii_lowercase second && is_ascii_lowercase third && sign == 64
    then Some (first ∷ second ∷ third ∷ []) else None
language_of _ = None

-- what stands behind the `@` of a part
unfoldable pub behind_sign : List ℕ → List ℕ
behind_sign part = after_first (λ byte. byte == 64) part

-- the version that stands behind an `@`: a day, or nothing for the expression as it was first
unfoldable pub version_in : ℕ → List ℕ → Read (Option ℕ)
version_in place spelled =
    if length spelled == 0 then Ok None
    else (do
      day ← or_fault (fault_at BadDate place) (day_of spelled)
      Ok (Some day))

-- the portion that stands behind a `~`
unfoldable pub portion_in : ℕ → List ℕ → Read (Option (List ℕ))
portion_in place spelled = do
  portion ← or_fault (fault_at BadPortion place) (after_front (codes "~") spelled)
  unless_broken (fault_at BadPortion place) (is_portion portion)
  Ok (Some portion)

-- the name of a component ends here: at the end, before a `/` or before a `~`
unfoldable pub is_component_end : List ℕ → Bool
is_component_end [] = true
is_component_end (byte ∷ rest) = byte == 47 || byte == 126

-- what stands behind the component `main`: nothing, or a portion behind `/~` or `~`
unfoldable pub behind_main : ℕ → List ℕ → Read (Option (List ℕ))
behind_main place rest =
    if length rest == 0 then Ok None else portion_in place (unwrap_or (after_front (codes "/") rest) rest)

-- what stands behind the `/` after a version: a portion, or the component `main` and perhaps a portion
unfoldable pub ending_in : List ℕ → List ℕ → Read (Option (List ℕ))
ending_in text behind =
    if slice_index behind 0 == 33
    then (do
      rest ← or_fault (fault_at OtherComponent (place_of text behind - 1)) (after_front (codes "!main") behind)
      unless_broken (fault_at OtherComponent (place_of text behind - 1)) (is_component_end rest)
      behind_main (place_of text rest) rest)
    else portion_in (place_of text behind - 1) behind

-- what stands after a version, which is nothing or begins with a `/`
abbrev pub ending_of : List ℕ → Option (List ℕ) → Read (Option (List ℕ))
ending_of text None = Ok None
ending_of text (Some behind) = ending_in text behind

-- the work that a name begins with, whose number ends before the next `/`
unfoldable pub work_in : List ℕ → Front → Work
work_in text front = record {
  text = take (place_of text front.left + length (part_of front.left)) text;
  jurisdiction = front.jurisdiction;
  date = front.date;
  number = part_of front.left;
}

-- what a name says from the number of the work on
unfoldable pub expression_behind : List ℕ → Front → Read Expression
expression_behind text front = do
  unless_broken (fault_at BadNumber (place_of text front.left)) (is_number (part_of front.left))
  let left = behind_part front.left
  language ← or_fault (fault_at BadLanguage (place_of text left)) (language_of (part_of left))
  version ← version_in (place_of text left + 4) (behind_sign (part_of left))
  portion ← ending_of text (behind_slash left)
  Ok (record { work = work_in text front; language = language; version = version; portion = portion })

-- what the IRI of an expression says
unfoldable pub expression_of : List ℕ → Read Expression
expression_of text = do
  front ← front_of text
  expression_behind text front

-- a text is the IRI of an expression
abbrev pub is_expression : List ℕ → Bool
is_expression text = is_ok (expression_of text)

-- a language is three lower-case letters
unfoldable pub is_language : List ℕ → Bool
is_language letters = length letters == 3 && list_all is_ascii_lowercase letters

-- a portion, where one is named, keeps its rule
unfoldable pub is_portion_or_none : Option (List ℕ) → Bool
is_portion_or_none None = true
is_portion_or_none (Some portion) = is_portion portion

-- how a version is spelled: its day, or nothing
abbrev pub version_text : Option ℕ → List ℕ
version_text None = []
version_text (Some day) = day_text day

-- how a portion is spelled: behind `/~`, or nothing
abbrev pub portion_text : Option (List ℕ) → List ℕ
portion_text None = []
portion_text (Some portion) = codes "/~" ++ portion

-- how the IRI of an expression is spelled up to its version
unfoldable pub versioned_text : Expression → List ℕ
versioned_text e = e.work.text ++ codes "/" ++ e.language ++ codes "@" ++ version_text e.version

-- how the IRI of an expression is spelled of the text of its work, the letters of its language, its version and its portion: the
-- component `main` is not named
abbrev pub spelled_expression : List ℕ → List ℕ → Option ℕ → Option (List ℕ) → List ℕ
spelled_expression work language version portion =
    (work ++ codes "/" ++ language ++ codes "@" ++ version_text version) ++ portion_text portion

-- how the IRI of an expression is spelled
unfoldable pub expression_text : Expression → List ℕ
expression_text e = spelled_expression e.work.text e.language e.version e.portion

-- each part keeps its rule, and the work is what its text says
pub record KeepsRules (e : Expression) : Type 0 where
  pub work : work_of e.work.text ≡ Ok e.work
  pub language : IsTrue (is_language e.language)
  pub version : IfSome e.version IsDay
  pub portion : IsTrue (is_portion_or_none e.portion)

-- how a name may end that names this portion: as it is spelled, or the same behind `/!main`, there also with `~` alone
abbrev pub IsEnding : Option (List ℕ) → List ℕ → Type 0
IsEnding portion ending =
    (ending ≡ portion_text portion) ⊎ (ending ≡ codes "/!main" ++ portion_text portion)
    ⊎ ((named : List ℕ) × (portion ≡ Some named) × (ending ≡ codes "/!main~" ++ named))

-- a text spells the IRI of an expression that says this
pub record SpellsExpression (text : List ℕ) (e : Expression) : Type 0 where
  pub kept : KeepsRules e
  pub ending : List ℕ
  pub is_ending : IsEnding e.portion ending
  pub spelled : text ≡ versioned_text e ++ ending
