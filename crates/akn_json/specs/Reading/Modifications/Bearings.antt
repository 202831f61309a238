-- The forms of force and of efficacy modifications. The word for the kind chooses the keys and is judged before them; the values
-- follow in the order kind, source, destination, the day from which the modification is counted, and its date or its days.
use Rattle.std.specs.Prelude.{ℕ, Option, Some, None, Ok}
use Rattle.serde_json.specs.Data.{Data}
use Rattle.serde_json.specs.Find.{get}
use Rattle.bearing_mods.specs.declared.force.ForceEffect.{ForceEffect}
use Rattle.bearing_mods.specs.declared.force.ForceEffect.TheVariants as effect
use Rattle.bearing_mods.specs.declared.efficacy.EfficacyEffect.{EfficacyEffect}
use Rattle.bearing_mods.specs.declared.efficacy.EfficacyEffect.TheVariants as made
use Rattle.law_register.specs.declared.law.modification.Destination.{Destination}
use Rattle.law_register.specs.declared.law.modification.Destination.TheVariants as destination
use Rattle.law_register.specs.declared.law.modification.Modification.{Modification}
use Rattle.law_register.specs.declared.law.modification.Modification.TheVariants.{Force, Efficacy}
use Rattle.akn_json.specs.declared.fault.FormRule.TheVariants.{UnknownWord}
use Rattle.akn_json.specs.declared.reading.modifications.bearing_kinds.ForceKind.{ForceKind}
use Rattle.akn_json.specs.declared.reading.modifications.bearing_kinds.ForceKind.TheVariants as force
use Rattle.akn_json.specs.declared.reading.modifications.bearing_kinds.EfficacyKind.{EfficacyKind}
use Rattle.akn_json.specs.declared.reading.modifications.bearing_kinds.EfficacyKind.TheVariants as efficacy
use Rattle.akn_json.specs.declared.reading.key.Key.TheVariants as key
use Rattle.akn_json.specs.declared.reading.tables.TheConstants.{OTHER_MODIFICATION, PROVISION, DATED, RETROACTIVITY, EXTRA_EFFICACY, INAPPLICATION}
use Rattle.akn_json.specs.Reading.Modifications.BearingKinds.{force_named, efficacy_named}
use Rattle.akn_json.specs.Reading.Keys.{key_name}
use Rattle.akn_json.specs.Reading.Reads.{Read, ◌>>=◌, ◌>>◌, broken, or_fault}
use Rattle.akn_json.specs.Reading.Fields.{members_in, either_in, field_in, text_in, day_in, period_in}
use Rattle.akn_json.specs.Reading.Names.{id_in, source_in}

-- the modification that is named, and else a provision
abbrev pub modification_or : Option Data → Data → Read Destination
modification_or (Some m) d = do
  id ← id_in m
  Ok (destination.Modification id)
modification_or None d = do
  w ← field_in key.Wid d
  wid ← text_in w
  Ok (destination.Node wid)

-- what a modification of force or efficacy is directed at: a textual modification, by its id, or a provision, by its wId
unfoldable pub directed_at_in : Data → Read Destination
directed_at_in d = do
  either_in OTHER_MODIFICATION PROVISION d
  modification_or (get (key_name key.Modification) d) d

-- the destination of a modification of force or efficacy
unfoldable pub destination_in : Data → Read Destination
destination_in d = do
  target ← field_in key.Destination d
  directed_at_in target

-- the day from which a modification is counted
unfoldable pub on_in : Data → Read ℕ
on_in d = do
  on ← field_in key.On d
  day_in on

-- the date to which a modification moves a start or an end
unfoldable pub date_in : Data → Read ℕ
date_in d = do
  date ← field_in key.Date d
  day_in date

-- the kind of a force modification
unfoldable pub force_kind_in : Data → Read ForceKind
force_kind_in d = do
  t ← field_in key.Type d
  word ← text_in t
  or_fault (broken UnknownWord) (force_named word)

-- what a force modification of a kind does, with its date
abbrev pub force_effect : ForceKind → ℕ → ForceEffect
force_effect force.Entry date = effect.Entry date
force_effect force.Postponement date = effect.Postponed date
force_effect force.End date = effect.Ended date
force_effect force.Prorogation date = effect.Prorogued date
force_effect force.ReEnactment date = effect.ReEnacted date

-- a force modification
unfoldable pub force_in : Data → Read Modification
force_in d = do
  kind ← force_kind_in d
  members_in DATED d
  s ← field_in key.Source d
  source ← source_in s
  destination ← destination_in d
  on ← on_in d
  date ← date_in d
  Ok (Force source destination on (force_effect kind date))

-- the kind of an efficacy modification
unfoldable pub efficacy_kind_in : Data → Read EfficacyKind
efficacy_kind_in d = do
  t ← field_in key.Type d
  word ← text_in t
  or_fault (broken UnknownWord) (efficacy_named word)

-- the members of an efficacy modification: a retroactivity is counted from its date, an extra efficacy has no date, and an
-- inapplication has a period of days and no date
abbrev pub efficacy_keys_in : EfficacyKind → Data → Read Unit
efficacy_keys_in efficacy.Entry d = members_in DATED d
efficacy_keys_in efficacy.End d = members_in DATED d
efficacy_keys_in efficacy.Retroactivity d = members_in RETROACTIVITY d
efficacy_keys_in efficacy.Postponement d = members_in DATED d
efficacy_keys_in efficacy.Prorogation d = members_in DATED d
efficacy_keys_in efficacy.ExtraEfficacy d = members_in EXTRA_EFFICACY d
efficacy_keys_in efficacy.Inapplication d = members_in INAPPLICATION d

-- the day from which an efficacy modification is counted: of a retroactivity its date
abbrev pub efficacy_on_in : EfficacyKind → Data → Read ℕ
efficacy_on_in efficacy.Entry d = on_in d
efficacy_on_in efficacy.End d = on_in d
efficacy_on_in efficacy.Retroactivity d = date_in d
efficacy_on_in efficacy.Postponement d = on_in d
efficacy_on_in efficacy.Prorogation d = on_in d
efficacy_on_in efficacy.ExtraEfficacy d = on_in d
efficacy_on_in efficacy.Inapplication d = on_in d

-- on which days an inapplication takes efficacy away
unfoldable pub inapplied_in : Data → Read EfficacyEffect
inapplied_in d = do
  p ← field_in key.Days d
  days ← period_in p
  Ok (made.Inapplied days)

-- what an efficacy modification with a date does
unfoldable pub dated_in : (ℕ → EfficacyEffect) → Data → Read EfficacyEffect
dated_in effect_of d = do
  date ← date_in d
  Ok (effect_of date)

-- what an efficacy modification of a kind does
abbrev pub efficacy_effect_in : EfficacyKind → Data → Read EfficacyEffect
efficacy_effect_in efficacy.Entry d = dated_in made.Entry d
efficacy_effect_in efficacy.End d = dated_in made.Ended d
efficacy_effect_in efficacy.Retroactivity d = dated_in made.Retroactive d
efficacy_effect_in efficacy.Postponement d = dated_in made.Postponed d
efficacy_effect_in efficacy.Prorogation d = dated_in made.Prorogued d
efficacy_effect_in efficacy.ExtraEfficacy d = Ok made.Extra
efficacy_effect_in efficacy.Inapplication d = inapplied_in d

-- an efficacy modification
unfoldable pub efficacy_in : Data → Read Modification
efficacy_in d = do
  kind ← efficacy_kind_in d
  efficacy_keys_in kind d
  s ← field_in key.Source d
  source ← source_in s
  destination ← destination_in d
  on ← efficacy_on_in kind d
  effect ← efficacy_effect_in kind d
  Ok (Efficacy source destination on effect)
