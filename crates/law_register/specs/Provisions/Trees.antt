-- The texts of all works on a day: each is made from the act as enacted, by what bears, once the texts ahead of it in the line are.
use Rattle.std.specs.Prelude.{◌≡◌, ℕ, Bool, true, false, ◌&&◌, List, [], ◌∷◌, ◌++◌, map, Option, Some, None, option_map, if◌then◌else◌}
use Rattle.std.specs.List.{AllByRecursion, find}
use Rattle.std.specs.Option.{option_map_or}
use Rattle.std.specs.Str.{bytes_eq}
use Rattle.desk_base.specs.declared.id.Id.{Id}
use Rattle.law_register.specs.declared.answer.question.Reading.{Reading}
use Rattle.law_register.specs.declared.law.modification.ModSource.{ModSource}
use Rattle.law_register.specs.declared.law.modification.Modification.{Modification}
use Rattle.law_register.specs.declared.register.known.Known.{Known}
use Rattle.law_register.specs.declared.register.known.KnownMod.{KnownMod}
use Rattle.law_register.specs.Answer.Counted.{is_same_id}
use Rattle.law_register.specs.Answer.Flags.{flag_among, root_flag}
use Rattle.law_register.specs.Answer.Order.{order}
use Rattle.law_register.specs.Answer.Replay.{VersionValue, replay_on}
use Rattle.law_register.specs.Answer.Standing.{alone}
use Rattle.law_register.specs.Law.Sources.{source_of}
use Rattle.law_register.specs.Provisions.Looking.{looked_at}

-- a work with its text: what is known of it, and the version of a day
pub record WorkText : Type 0 where
  pub known : Known
  pub version : VersionValue

-- the text of the work of this IRI
abbrev pub text_in : List ℕ → List WorkText → Option WorkText
text_in work texts = find (λ text. bytes_eq text.known.act.work work) texts

-- a flag is there, and holds
abbrev pub is_raised : Option Bool → Bool
is_raised None = false
is_raised (Some flag) = flag

-- a provision stands in a text on its day: the text has it, and its flag holds. `body` is no provision of a text, so it never stands
abbrev pub stands_in : Reading → ℕ → List ℕ → Option WorkText → Bool
stands_in reading day wid None = false
stands_in reading day wid (Some text) =
    is_raised (flag_among text.known reading day (root_flag text.known reading day) wid text.version.tree.body)

-- a provision of a work stands, by the texts of a day
abbrev pub stands : List WorkText → Reading → ℕ → List ℕ → List ℕ → Bool
stands texts reading day work wid = stands_in reading day wid (text_in work texts)

-- the provision that a source names stands; none does, where none is named
abbrev pub named_stands : List WorkText → Reading → ℕ → List ℕ → Option (List ℕ) → Bool
named_stands texts reading day work None = false
named_stands texts reading day work (Some wid) = stands texts reading day work wid

abbrev pub source_stands : List WorkText → Reading → ℕ → ModSource → Bool
source_stands texts reading day source = named_stands texts reading day source.href source.provision

-- a modification of an act of the day `of` is borne on a day: its provision is not looked at, or stands
abbrev pub is_borne : List Known → List WorkText → Reading → ℕ → ℕ → Modification → Bool
is_borne line texts reading day act_day m = if looked_at line act_day m then source_stands texts reading day (source_of m) else true

-- a known modification on a day: one that is not borne is as one that does not stand. Nothing is carried: the texts tell it
abbrev pub borne : List Known → List WorkText → Reading → ℕ → ℕ → KnownMod → KnownMod
borne line texts reading day act_day m =
    record m { live = m.live && is_borne line texts reading day act_day m.body; carried = None }

-- the modification of this id is borne; so is an id that is not known
abbrev pub is_borne_id : List Known → List WorkText → Reading → ℕ → Known → Id → Bool
is_borne_id line texts reading day known id =
    option_map_or (λ m. is_borne line texts reading day known.act.day m.body) (find (λ m. is_same_id m.id id) known.mods) true

-- what is known of a work, as it counts on a day
abbrev pub work_borne : List Known → List WorkText → Reading → ℕ → Known → Known
work_borne line texts reading day known =
    record known { mods = map (borne line texts reading day known.act.day) known.mods; source_days = [] }

-- the text of a work on a day, by the texts ahead of it
abbrev pub text_on : List Known → Reading → ℕ → List WorkText → Known → WorkText
text_on line reading day texts known =
    record { known = known; version = replay_on (work_borne line texts reading day known) reading day }

-- texts, and behind them those of more works, each by the texts ahead of it
abbrev pub texts_after : List Known → Reading → ℕ → List WorkText → List Known → List WorkText
texts_after line reading day texts [] = texts
texts_after line reading day texts (known ∷ works) =
    texts_after line reading day (texts ++ text_on line reading day texts known ∷ []) works

-- the texts of the works of a line on a day, in their order
unfoldable pub trees : List Known → Reading → ℕ → List WorkText
trees line reading day = texts_after line reading day [] line

-- the ids of the modifications of a work that bear on a day, in the order in which they are applied
abbrev pub order_in : List Known → Known → Reading → ℕ → List Id
order_in line known reading day = order (work_borne line (trees line reading day) reading day known) reading day

-- the version of a work on a day
abbrev pub version_in : List Known → Known → Reading → ℕ → VersionValue
version_in line known reading day = replay_on (work_borne line (trees line reading day) reading day known) reading day

-- a work with the text that its modifications make where no provision is looked at
abbrev pub text_alone : Reading → ℕ → Known → WorkText
text_alone reading day known = record { known = known; version = replay_on (alone known) reading day }

-- what the known modification of this id says
abbrev pub said_by : List KnownMod → Id → Option Modification
said_by mods id = option_map (λ m. m.body) (find (λ m. is_same_id m.id id) mods)

-- on a day a work is one in two lines: the same modifications bear, in the same order, each says the same, and they make the same text
pub record AgreesOn (line other : List Known) (old new : Known) (reading : Reading) (day : ℕ) : Type 0 where
  pub orders : order_in line old reading day ≡ order_in other new reading day
  pub bodies : AllByRecursion (λ id. said_by old.mods id ≡ said_by new.mods id) (order_in other new reading day)
  pub versions : version_in line old reading day ≡ version_in other new reading day
