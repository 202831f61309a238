-- Modifications of force and of efficacy as JSON, with the keys of each object in ascending byte order.
use Rattle.std.specs.Prelude.{ℕ, List, codes}
use Rattle.serde_json.specs.Data.{Data, string, object, Members, no_members, member}
use Rattle.desk_base.specs.Ids.{id_text}
use Rattle.bearing_mods.specs.declared.force.ForceEffect.{ForceEffect}
use Rattle.bearing_mods.specs.declared.force.ForceEffect.TheVariants as effect
use Rattle.bearing_mods.specs.declared.efficacy.EfficacyEffect.{EfficacyEffect}
use Rattle.bearing_mods.specs.declared.efficacy.EfficacyEffect.TheVariants as made
use Rattle.law_register.specs.declared.law.modification.Destination.{Destination}
use Rattle.law_register.specs.declared.law.modification.Destination.TheVariants as destination
use Rattle.law_register.specs.declared.law.modification.ModSource.{ModSource}
use Rattle.akn_json.specs.declared.reading.modifications.bearing_kinds.ForceKind.{ForceKind}
use Rattle.akn_json.specs.declared.reading.modifications.bearing_kinds.ForceKind.TheVariants as force
use Rattle.akn_json.specs.declared.reading.modifications.bearing_kinds.EfficacyKind.TheVariants as efficacy
use Rattle.akn_json.specs.Reading.Modifications.BearingKinds.{force_word, efficacy_word}
use Rattle.akn_json.specs.Printing.Parts.{day_data, period_data, provision_data, kind_data}

-- what a modification of force or efficacy is directed at: a modification by its id, or a provision by its wId
abbrev pub destination_data : Destination → Data
destination_data (destination.Modification id) = object (member (codes "modification") (string (id_text id)) no_members)
destination_data (destination.Node wid) = provision_data wid

-- the destination, the day from which the modification is counted, its source and its kind
abbrev pub counted_data : Destination → ℕ → ModSource → List ℕ → Members
counted_data to on source word =
    member (codes "destination") (destination_data to) (member (codes "on") (day_data on) (kind_data source word))

-- a modification with a date
abbrev pub dated_data : ModSource → Destination → ℕ → ℕ → List ℕ → Data
dated_data source to on date word = object (member (codes "date") (day_data date) (counted_data to on source word))

-- the kind of a force modification, and its date
abbrev pub kind_of_force : ForceEffect → ForceKind
kind_of_force (effect.Entry date) = force.Entry
kind_of_force (effect.Postponed date) = force.Postponement
kind_of_force (effect.Ended date) = force.End
kind_of_force (effect.Prorogued date) = force.Prorogation
kind_of_force (effect.ReEnacted date) = force.ReEnactment

abbrev pub date_of_force : ForceEffect → ℕ
date_of_force (effect.Entry date) = date
date_of_force (effect.Postponed date) = date
date_of_force (effect.Ended date) = date
date_of_force (effect.Prorogued date) = date
date_of_force (effect.ReEnacted date) = date

-- a force modification
abbrev pub force_data : ModSource → Destination → ℕ → ForceEffect → Data
force_data source to on e = dated_data source to on (date_of_force e) (force_word (kind_of_force e))

-- an efficacy modification: a retroactivity is counted from its date, an extra efficacy has no date, and an inapplication has a
-- period of days and no date
abbrev pub efficacy_data : ModSource → Destination → ℕ → EfficacyEffect → Data
efficacy_data source to on (made.Entry date) = dated_data source to on date (efficacy_word efficacy.Entry)
efficacy_data source to on (made.Ended date) = dated_data source to on date (efficacy_word efficacy.End)
efficacy_data source to on (made.Retroactive date) =
    object (member (codes "date") (day_data date)
    (member (codes "destination") (destination_data to) (kind_data source (efficacy_word efficacy.Retroactivity))))
efficacy_data source to on (made.Postponed date) = dated_data source to on date (efficacy_word efficacy.Postponement)
efficacy_data source to on (made.Prorogued date) = dated_data source to on date (efficacy_word efficacy.Prorogation)
efficacy_data source to on made.Extra = object (counted_data to on source (efficacy_word efficacy.ExtraEfficacy))
efficacy_data source to on (made.Inapplied days) =
    object (member (codes "days") (period_data days) (counted_data to on source (efficacy_word efficacy.Inapplication)))
