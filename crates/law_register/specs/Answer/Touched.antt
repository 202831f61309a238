-- The touched day of an entry: before it, the entry leaves everything that was applied as it was.
use Rattle.std.specs.Prelude.{ℕ, min, List, [], ◌∷◌, Option, Some, None, option_map, if◌then◌else◌}
use Rattle.std.specs.Str.{bytes_eq}
use Rattle.desk_base.specs.declared.id.Id.{Id}
use Rattle.law_register.specs.declared.law.command.Command.{Command}
use Rattle.law_register.specs.declared.law.command.Command.TheVariants.{Correct, Record, Restore, Withdraw}
use Rattle.law_register.specs.declared.law.modification.Destination.{Destination}
use Rattle.law_register.specs.declared.law.modification.Destination.TheVariants as to
use Rattle.law_register.specs.declared.law.modification.Modification.{Modification}
use Rattle.law_register.specs.declared.law.modification.Modification.TheVariants.{Textual, Force, Efficacy}
use Rattle.law_register.specs.declared.register.entry.Entry.{Entry}
use Rattle.law_register.specs.declared.register.known.Known.{Known}
use Rattle.law_register.specs.declared.register.known.KnownMod.{KnownMod}
use Rattle.law_register.specs.Answer.Counted.{is_same}
use Rattle.law_register.specs.Register.Concerns.{concerned}
use Rattle.law_register.specs.Register.KnownIds.{IdFacts, facts_of}
use Rattle.law_register.specs.Register.KnownNext.{known_now}
use Rattle.law_register.specs.Register.LawList.{law_of, laws}

-- the earlier of two days, or the one that there is
abbrev pub sooner : Option ℕ → Option ℕ → Option ℕ
sooner None other = other
sooner (Some day) None = Some day
sooner (Some day) (Some other) = Some (min day other)

-- the day from which a modification of force or efficacy is counted, if it is directed at this textual modification
abbrev pub day_on : Id → Modification → Option ℕ
day_on id (Textual source force edit) = None
day_on id (Force source destination on effect) = if is_same destination (to.Modification id) then Some on else None
day_on id (Efficacy source destination on effect) = if is_same destination (to.Modification id) then Some on else None

-- the first day from which one that is directed at a textual modification is counted, whether it stands or not
abbrev pub first_on : Id → List KnownMod → Option ℕ
first_on id [] = None
first_on id (m ∷ ms) = sooner (day_on id m.body) (first_on id ms)

-- the day from which a modification directed at this is counted; none where it is a provision, of which only the flag changes
abbrev pub day_at : Destination → ℕ → Option ℕ
day_at (to.Modification id) on = Some on
day_at (to.Node wid) on = None

-- the day that a modification touches by itself: the start of a textual one, or the day from which one directed at a textual one is
-- counted
abbrev pub own_day : Modification → Option ℕ
own_day (Textual source force edit) = Some force.start
own_day (Force source destination on effect) = day_at destination on
own_day (Efficacy source destination on effect) = day_at destination on

-- the day that an id touches which says this: its own, or that of one directed at it
abbrev pub day_saying : List KnownMod → Id → Modification → Option ℕ
day_saying mods id body = sooner (own_day body) (first_on id mods)

-- the first day that modifications touch which are recorded now: none is directed at one of them yet
abbrev pub day_recorded : List Modification → Option ℕ
day_recorded [] = None
day_recorded (body ∷ bodies) = sooner (own_day body) (day_recorded bodies)

-- the modifications of a work, if it is known
abbrev pub mods_in : Option Known → List KnownMod
mods_in None = []
mods_in (Some known) = known.mods

-- the modifications of a work, as a register knows them at its front
abbrev pub mods_of : List Entry → List ℕ → List KnownMod
mods_of entries work = mods_in (known_now entries work)

-- the day that an id touches by what it says, if it is recorded
abbrev pub day_known : List Entry → Id → Option IdFacts → Option ℕ
day_known entries id None = None
day_known entries id (Some facts) = day_saying (mods_of entries facts.work) id facts.body

-- the day that an id touches once it says this, if it is recorded
abbrev pub day_corrected : List Entry → Id → Modification → Option IdFacts → Option ℕ
day_corrected entries id body None = None
day_corrected entries id body (Some facts) = day_saying (mods_of entries facts.work) id body

-- the first day that the ids touch which a law entry behind these changes; of a correction, by the old body and by the new one
abbrev pub day_changed : List Entry → Command → Option ℕ
day_changed entries (Record work bodies) = day_recorded bodies
day_changed entries (Correct id body) =
    sooner (day_known entries id (facts_of id (laws entries)))
    (day_corrected entries id body (facts_of id (laws entries)))
day_changed entries (Withdraw id) = day_known entries id (facts_of id (laws entries))
day_changed entries (Restore id) = day_known entries id (facts_of id (laws entries))
day_changed entries _ = None

-- the day that an entry touches by what it is to the law; an entry of a draft is nothing
abbrev pub day_entered : List Entry → List Command → Option ℕ
day_entered entries [] = None
day_entered entries (command ∷ _) = day_changed entries command

-- the touched day of an entry that comes behind others, if it touches any
unfoldable pub touched_day : List Entry → Entry → Option ℕ
touched_day entries entry = day_entered entries (law_of entries entry)

-- the work that an entry concerns by what it is to the law; an entry of a draft concerns none
abbrev pub work_entered : List Entry → List Command → Option (List ℕ)
work_entered entries [] = None
work_entered entries (command ∷ _) = concerned (λ id. option_map (λ f. f.work) (facts_of id (laws entries))) command

-- a work with its day, where both are there
abbrev pub with_day : Option (List ℕ) → Option ℕ → List (List ℕ × ℕ)
with_day None day = []
with_day (Some work) None = []
with_day (Some work) (Some day) = (work, day) ∷ []

-- the works that an entry touches which comes behind others, each with its touched day
unfoldable pub touched_days : List Entry → Entry → List (List ℕ × ℕ)
touched_days entries entry = with_day (work_entered entries (law_of entries entry)) (touched_day entries entry)

-- the touched day of a work among these, if it is one of them
abbrev pub day_among : List (List ℕ × ℕ) → List ℕ → Option ℕ
day_among [] work = None
day_among (touched ∷ others) work = if bytes_eq touched.0 work then Some touched.1 else day_among others work
