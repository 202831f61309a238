-- The IRIs of works: what they say.
use Rattle.std.specs.Prelude.{◌≡◌, ℕ, ◌≤◌, List, [], ◌∷◌, ◌++◌, length, codes, Option, Some, None, Ok, Err, IsTrue}
use Rattle.std.specs.List.{list_all}
use Rattle.std.specs.Str.{bytes_eq}
use Rattle.std.specs.Prelude.{if◌then◌else◌}
use Rattle.frbr_names.specs.declared.fault.NameRule.TheVariants.{NotAkn, BadJurisdiction, NotAnAct, BadDate, BadNumber}
use Rattle.frbr_names.specs.declared.date.IriDate.{IriDate}
use Rattle.frbr_names.specs.Reads.{Read, ◌>>=◌, ◌>>◌, fault_at, place_of, or_fault, unless_broken}
use Rattle.frbr_names.specs.Parts.{part_of, behind_part, after_front}
use Rattle.frbr_names.specs.Rules.{is_jurisdiction, is_word, is_number}
use Rattle.frbr_names.specs.Dates.{date_of, IsDate, spelled_date}

-- what the IRI of a work says: all of it, its jurisdiction, its date and its number
pub record Work : Type 0 where
  pub text : List ℕ
  pub jurisdiction : List ℕ
  pub date : IriDate
  pub number : List ℕ

-- what a name says before the number of the work, and what is left from there on
pub record Front : Type 0 where
  pub jurisdiction : List ℕ
  pub date : IriDate
  pub left : List ℕ

-- what is left behind a word, where one stands first
unfoldable pub behind_word : List ℕ → List ℕ
behind_word left = if is_word (part_of left) then behind_part left else left

-- the front of a name: `/akn/`, a jurisdiction, `/act/`, at most two words and a date
unfoldable pub front_of : List ℕ → Read Front
front_of text = do
  left ← or_fault (fault_at NotAkn 0) (after_front (codes "/akn/") text)
  unless_broken (fault_at BadJurisdiction (place_of text left)) (is_jurisdiction (part_of left))
  let kind = behind_part left
  unless_broken (fault_at NotAnAct (place_of text kind)) (bytes_eq (part_of kind) (codes "act"))
  let dated = behind_word (behind_word (behind_part kind))
  date ← or_fault (fault_at BadDate (place_of text dated)) (date_of (part_of dated))
  Ok (record { jurisdiction = part_of left; date = date; left = behind_part dated })

-- what the IRI of a work says: its number runs to the end
unfoldable pub work_of : List ℕ → Read Work
work_of text = do
  front ← front_of text
  unless_broken (fault_at BadNumber (place_of text front.left)) (is_number front.left)
  Ok (record { text = text; jurisdiction = front.jurisdiction; date = front.date; number = front.left })

-- the date of the work that was read, if one was
abbrev pub date_read : Read Work → Option IriDate
date_read (Ok work) = Some work.date
date_read (Err fault) = None

-- the date of the work that a text names, if it names one
unfoldable pub date_named : List ℕ → Option IriDate
date_named text = date_read (work_of text)

-- the parts of which the IRI of a work is spelled: its words name a subtype or an actor
pub record WorkParts : Type 0 where
  pub jurisdiction : List ℕ
  pub words : List (List ℕ)
  pub date : IriDate
  pub number : List ℕ

-- each part keeps its rule, and there are at most two words
pub record KeepRules (parts : WorkParts) : Type 0 where
  pub jurisdiction : IsTrue (is_jurisdiction parts.jurisdiction)
  pub words : IsTrue (list_all is_word parts.words)
  pub few_words : length parts.words ≤ 2
  pub date : IsDate parts.date
  pub number : IsTrue (is_number parts.number)

-- how words are spelled, each with a `/` behind it
unfoldable pub words_text : List (List ℕ) → List ℕ
words_text [] = []
words_text (word ∷ words) = word ++ 47 ∷ words_text words

-- how a name is spelled up to the number of its work, of a jurisdiction, words and a date
unfoldable pub front_text : List ℕ → List (List ℕ) → IriDate → List ℕ
front_text jurisdiction words date =
    codes "/akn/" ++ jurisdiction ++ codes "/act/" ++ words_text words ++ spelled_date date ++ codes "/"

-- how the IRI of a work is spelled
unfoldable pub work_text : WorkParts → List ℕ
work_text parts = front_text parts.jurisdiction parts.words parts.date ++ parts.number

-- what the IRI of a work says that is spelled of these parts
abbrev pub work_from : WorkParts → Work
work_from parts =
    record { text = work_text parts; jurisdiction = parts.jurisdiction; date = parts.date; number = parts.number }

-- a text spells the IRI of a work that says this, in parts that keep their rules
pub record SpellsWork (text : List ℕ) (work : Work) : Type 0 where
  pub parts : WorkParts
  pub kept : KeepRules parts
  pub spelled : text ≡ work_text parts
  pub same : work ≡ work_from parts
