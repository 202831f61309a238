-- The life of an act: when it was enacted, and when it is amended and repealed.
use Rattle.std.specs.Prelude.{ℕ, false, Bool, List, [], ◌∷◌, Option, Some, None, Result, Ok, Err, map, if◌then◌else◌, codes}
use Rattle.std.specs.BTreeMap.{insert_entry}
use Rattle.std.specs.Fmt.{decimal}
use Rattle.std.specs.Ordering.{nat_cmp, on, then_cmp}
use Rattle.std.specs.Str.{bytes_eq}
use Rattle.std.specs.declared.cmp.Ordering.{Ordering}
use Rattle.desk_base.specs.Days.{day_text}
use Rattle.desk_base.specs.Ids.{id_text}
use Rattle.desk_base.specs.declared.id.Id.{Id}
use Rattle.act_tree.specs.Changes.{root_wid}
use Rattle.bearing_mods.specs.declared.force.ForceEffect.{ForceEffect}
use Rattle.bearing_mods.specs.declared.force.ForceEffect.TheVariants.{Ended}
use Rattle.textual_mods.specs.declared.edit.TextualMod.{TextualMod}
use Rattle.textual_mods.specs.declared.edit.TextualMod.TheVariants.{Repeal}
use Rattle.law_register.specs.declared.law.modification.Destination.{Destination}
use Rattle.law_register.specs.declared.law.modification.Destination.TheVariants as to
use Rattle.law_register.specs.declared.law.modification.Modification.{Modification}
use Rattle.law_register.specs.declared.law.modification.Modification.TheVariants.{Textual, Force, Efficacy}
use Rattle.law_register.specs.declared.register.entry.Entry.{Entry}
use Rattle.law_register.specs.declared.register.known.Known.{Known}
use Rattle.law_register.specs.declared.register.known.KnownMod.{KnownMod}
use Rattle.law_register.specs.declared.answer.queries.QueryRule.{QueryRule}
use Rattle.law_register.specs.declared.answer.queries.QueryRule.TheVariants.{UnknownWork}
use Rattle.law_register.specs.Register.KnownIds.{known_at}
use Rattle.law_register.specs.Register.LawList.{front}
use Rattle.law_reports.specs.Tables.{table_text}
use Rattle.law_reports.specs.declared.events.Event.{Event}
use Rattle.law_reports.specs.declared.events.EventKind.{EventKind}
use Rattle.law_reports.specs.declared.events.EventKind.TheVariants as kinds
use Rattle.law_reports.specs.declared.events.Moment.{Moment}

-- the word for a kind of event
abbrev pub event_name : EventKind → List ℕ
event_name kinds.Generation = codes "generation"
event_name kinds.Amendment = codes "amendment"
event_name kinds.Repeal = codes "repeal"

-- events stand by their days, and on one day by the ids of what makes them
abbrev pub moment_cmp : Moment → Moment → Ordering
moment_cmp =
    then_cmp (on (λ m. m.day) nat_cmp)
    (then_cmp (on (λ m. m.id.law) nat_cmp) (on (λ m. m.id.item) nat_cmp))

-- an event of this kind, which the id of a work makes on a day
abbrev pub event_at : ℕ → Id → EventKind → List ℕ → Moment × Event
event_at day id kind source = (record { day = day; id = id }, record { kind = kind; source = source })

-- the enactment of an act, on its day, which is item 0 of its law entry
abbrev pub generation : Known → Moment × Event
generation known =
    event_at known.act.day (record { law = known.enacted; item = 0 }) kinds.Generation known.act.work

-- what an edit of the text is to the act: its repeal where it repeals the whole text, and else an amendment
abbrev pub kind_of_edit : TextualMod → EventKind
kind_of_edit (Repeal wid) = if bytes_eq wid root_wid then kinds.Repeal else kinds.Amendment
kind_of_edit edit = kinds.Amendment

-- a thing is the act itself
abbrev pub is_act : Destination → Bool
is_act (to.Node wid) = bytes_eq wid root_wid
is_act (to.Modification id) = false

-- the end of the enactment of the act itself is its repeal, on the date that it names; no other effect on force is an event
abbrev pub event_of_effect : Id → List ℕ → Destination → ForceEffect → Option (Moment × Event)
event_of_effect id source thing (Ended day) =
    if is_act thing then Some (event_at day id kinds.Repeal source) else None
event_of_effect id source thing effect = None

-- the event that a modification makes, if it makes one: a textual one on the day from which it is in force by itself
abbrev pub event_of_body : Id → Modification → Option (Moment × Event)
event_of_body id (Textual source own edit) = Some (event_at own.start id (kind_of_edit edit) source.href)
event_of_body id (Force source thing on effect) = event_of_effect id source.href thing effect
event_of_body id (Efficacy source thing on effect) = None

-- the event of a modification, where it stands
abbrev pub event_of : KnownMod → Option (Moment × Event)
event_of m = if m.live then event_of_body m.id m.body else None

-- an event takes its place among others
abbrev pub with_event : List (Moment × Event) → Option (Moment × Event) → List (Moment × Event)
with_event events None = events
with_event events (Some event) = insert_entry moment_cmp events event.0 event.1

-- those of modifications take their places among others
abbrev pub with_events : List (Moment × Event) → List KnownMod → List (Moment × Event)
with_events events [] = events
with_events events (m ∷ ms) = with_events (with_event events (event_of m)) ms

-- the events in the life of an act, in order
abbrev pub events_of : Known → List (Moment × Event)
events_of known = with_events (generation known ∷ []) known.mods

-- the id of an event as a table has it: that of a modification, or of the enactment the number of its law entry
abbrev pub event_id : EventKind → Id → List ℕ
event_id kinds.Generation id = decimal id.law
event_id kinds.Amendment id = id_text id
event_id kinds.Repeal id = id_text id

-- the row of an event
abbrev pub event_row : Moment × Event → List (List ℕ)
event_row event =
    day_text event.0.day ∷ event_name event.1.kind ∷ event.1.source ∷ event_id event.1.kind event.0.id ∷ []

-- the names of the columns
abbrev pub lifecycle_names : List (List ℕ)
lifecycle_names = codes "date" ∷ codes "type" ∷ codes "source" ∷ codes "id" ∷ []

-- the table of a work that is known
abbrev pub lifecycle_of : Known → List ℕ
lifecycle_of known = table_text lifecycle_names (map event_row (events_of known))

-- the same, or that the work is not known
abbrev pub lifecycle_by : List ℕ → Option Known → Result (List ℕ) QueryRule
lifecycle_by work None = Err (UnknownWork work)
lifecycle_by work (Some known) = Ok (lifecycle_of known)

-- the life of a work, as all entries make it known
unfoldable pub lifecycle : List Entry → List ℕ → Result (List ℕ) QueryRule
lifecycle entries work = lifecycle_by work (known_at entries work (front entries))
