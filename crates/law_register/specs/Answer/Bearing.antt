-- When a thing is in force and has efficacy, and whether it bears on a day.
use Rattle.std.specs.Prelude.{ℕ, Bool, List, Option, Some, None, if◌then◌else◌}
use Rattle.std.specs.Str.{bytes_eq}
use Rattle.desk_base.specs.declared.period.Period.{Period}
use Rattle.desk_base.specs.Periods.{includes}
use Rattle.act_tree.specs.Changes.{root_wid}
use Rattle.bearing_mods.specs.Force.{force_at}
use Rattle.bearing_mods.specs.Efficacy.{efficacy_at}
use Rattle.bearing_mods.specs.declared.efficacy.Efficacy.{Efficacy}
use Rattle.law_register.specs.declared.register.known.Known.{Known}
use Rattle.law_register.specs.declared.register.known.KnownMod.{KnownMod}
use Rattle.law_register.specs.declared.law.modification.Destination.{Destination}
use Rattle.law_register.specs.declared.law.modification.Destination.TheVariants as to
use Rattle.law_register.specs.declared.answer.question.Reading.{Reading}
use Rattle.law_register.specs.declared.answer.question.Reading.TheVariants as reading
use Rattle.law_register.specs.Answer.Counted.{forces_on, efficacies_on}

-- the force period of a thing on a day: the period that it has of itself, changed by the force modifications counted on it
abbrev pub force_on : List KnownMod → Destination → Period → ℕ → Period
force_on mods thing own day = force_at own (forces_on thing day mods)

-- the act as a thing
abbrev pub act_itself : Destination
act_itself = to.Node root_wid

-- the force period of the act on a day
abbrev pub force_of_act : Known → ℕ → Period
force_of_act known day = force_on known.mods act_itself known.act.force day

-- the force period of a provision on a day, which starts from that of the act on that day; of `body` it is the act's
abbrev pub force_of_node : Known → List ℕ → ℕ → Period
force_of_node known wid day =
    if bytes_eq wid root_wid then force_of_act known day
    else force_on known.mods (to.Node wid) (force_of_act known day) day

-- the efficacy of a thing of this force period on a day, by the efficacy modifications counted on it
abbrev pub efficacy_on : List KnownMod → Destination → Period → ℕ → Efficacy
efficacy_on mods thing force day = efficacy_at force (efficacies_on thing day mods) day

-- the period that counts in a reading, of a thing of this force period
abbrev pub period_on : Reading → List KnownMod → Destination → Period → ℕ → Period
period_on reading.Force mods thing force day = force
period_on reading.Efficacy mods thing force day = (efficacy_on mods thing force day).period

-- a thing of this force period bears on the day: it is in force then, or has efficacy
abbrev pub bears_on : Reading → List KnownMod → Destination → Period → ℕ → Bool
bears_on reading.Force mods thing force day = includes force day
bears_on reading.Efficacy mods thing force day = (efficacy_on mods thing force day).holds

-- a provision bears on the day
abbrev pub node_bears : Known → Reading → ℕ → List ℕ → Bool
node_bears known reading day wid = bears_on reading known.mods (to.Node wid) (force_of_node known wid day) day

-- the day from which a thing bears that has this period of itself, if it bears on the day
abbrev pub start_on : Reading → ℕ → List KnownMod → Destination → Period → Option ℕ
start_on reading day mods thing own =
    if bears_on reading mods thing (force_on mods thing own day) day
    then Some (period_on reading mods thing (force_on mods thing own day) day).start
    else None
