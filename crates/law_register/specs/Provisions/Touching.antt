-- The works that an entry touches, each from a day on: its own work, and those that depend on what the entry reaches.
use Rattle.std.specs.Prelude.{ℕ, Bool, ◌||◌, is_some, List, [], ◌∷◌, ◌++◌, Option, Some, None, if◌then◌else◌}
use Rattle.std.specs.List.{list_any}
use Rattle.law_register.specs.declared.law.command.Command.{Command}
use Rattle.law_register.specs.declared.law.command.Command.TheVariants.{Correct, Record, Restore, Withdraw}
use Rattle.law_register.specs.declared.law.modification.Destination.{Destination}
use Rattle.law_register.specs.declared.law.modification.Destination.TheVariants as to
use Rattle.law_register.specs.declared.law.modification.Modification.{Modification}
use Rattle.law_register.specs.declared.law.modification.Modification.TheVariants.{Textual, Force, Efficacy}
use Rattle.law_register.specs.declared.register.entry.Entry.{Entry}
use Rattle.law_register.specs.declared.register.known.Known.{Known}
use Rattle.law_register.specs.Answer.Touched.{day_among, sooner, touched_day, with_day, work_entered}
use Rattle.law_register.specs.Register.Concerns.{is_named}
use Rattle.law_register.specs.Register.KnownIds.{IdFacts, enacted_by, facts_of}
use Rattle.law_register.specs.Register.LawList.{law_of, laws}
use Rattle.law_register.specs.Provisions.Depending.{depends_in}
use Rattle.law_register.specs.Provisions.Line.{line}

-- an entry that comes behind others changes ids of a work, or enacts it
abbrev pub is_concerned : List Entry → Entry → List ℕ → Bool
is_concerned entries entry work = is_named work (work_entered entries (law_of entries entry))

-- the first day that the ids of a work touch which an entry changes: before it, what bears of them by their own periods stays
abbrev pub own : List Entry → Entry → List ℕ → Option ℕ
own entries entry work = if is_concerned entries entry work then touched_day entries entry else None

-- the day from which a modification is counted that is directed at a provision; none, where at a textual modification
abbrev pub day_at_node : Destination → ℕ → Option ℕ
day_at_node (to.Modification id) on = None
day_at_node (to.Node wid) on = Some on

-- the day from which a modification may change flags
abbrev pub flag_day : Modification → Option ℕ
flag_day (Textual source force edit) = None
flag_day (Force source destination on effect) = day_at_node destination on
flag_day (Efficacy source destination on effect) = day_at_node destination on

-- the first of these days of some modifications
abbrev pub first_flag_day : List Modification → Option ℕ
first_flag_day [] = None
first_flag_day (body ∷ bodies) = sooner (flag_day body) (first_flag_day bodies)

-- the day of what an id says, and once it says something else, where the id is recorded
abbrev pub flag_day_known : Option IdFacts → Option ℕ
flag_day_known None = None
flag_day_known (Some facts) = flag_day facts.body

abbrev pub flag_day_corrected : Modification → Option IdFacts → Option ℕ
flag_day_corrected body None = None
flag_day_corrected body (Some facts) = sooner (flag_day facts.body) (flag_day body)

-- the first day on which a law entry behind these may change flags; of a correction, by the old body and by the new one
abbrev pub flag_day_changed : List Entry → Command → Option ℕ
flag_day_changed entries (Record work bodies) = first_flag_day bodies
flag_day_changed entries (Correct id body) = flag_day_corrected body (facts_of id (laws entries))
flag_day_changed entries (Withdraw id) = flag_day_known (facts_of id (laws entries))
flag_day_changed entries (Restore id) = flag_day_known (facts_of id (laws entries))
flag_day_changed entries _ = None

-- the same of an entry by what it is to the law; an entry of a draft is nothing
abbrev pub flag_day_entered : List Entry → List Command → Option ℕ
flag_day_entered entries [] = None
flag_day_entered entries (command ∷ _) = flag_day_changed entries command

-- the first day on which an entry may change flags of a work
abbrev pub flags_from : List Entry → Entry → List ℕ → Option ℕ
flags_from entries entry work =
    if is_concerned entries entry work then flag_day_entered entries (law_of entries entry) else None

-- an entry enacts a work
abbrev pub enacts : List Entry → Entry → List ℕ → Bool
enacts entries entry work = list_any (λ command. is_some (enacted_by work command)) (law_of entries entry)

-- the day from which an entry reaches those who depend on a work, of which this is the touched day: the first of all days where it
-- enacts the work, and else the first on which text or flags of the work may change
abbrev pub reach : List Entry → Entry → List ℕ → Option ℕ → Option ℕ
reach entries entry work touched =
    if enacts entries entry work then Some 1 else sooner touched (flags_from entries entry work)

-- a work with the day from which an entry touches it, and the day from which those who depend on it are reached
pub record WorkTouched : Type 0 where
  pub known : Known
  pub touched : Option ℕ
  pub reached : Option ℕ

-- of works ahead of one, the first day from which it is reached through one on which it depends, in the one line or in the other
abbrev pub first_reached : (old new : List Known) → List ℕ → List WorkTouched → Option ℕ
first_reached old new work [] = None
first_reached old new work (t ∷ ts) =
    sooner (if depends_in old work t.known.act.work || depends_in new work t.known.act.work then t.reached else None)
    (first_reached old new work ts)

-- the touched day of a work, by the works ahead of it
abbrev pub touched_by : List Entry → Entry → (old new : List Known) → List WorkTouched → List ℕ → Option ℕ
touched_by entries entry old new ahead work =
    sooner (own entries entry work) (first_reached old new work ahead)

abbrev pub touched_as : List Entry → Entry → Known → Option ℕ → WorkTouched
touched_as entries entry known touched =
    record { known = known; touched = touched; reached = reach entries entry known.act.work touched }

-- works with their touched days, and behind them more works, each by those ahead of it
abbrev pub touched_after : List Entry → Entry → (old new : List Known) → List WorkTouched → List Known → List WorkTouched
touched_after entries entry old new ahead [] = ahead
touched_after entries entry old new ahead (known ∷ works) =
    touched_after entries entry old new
    (ahead ++ touched_as entries entry known (touched_by entries entry old new ahead known.act.work) ∷ []) works

-- the works of the line with the entry, each with its touched day, by the line without it and the line with it
unfoldable pub touched_along : List Entry → Entry → List WorkTouched
touched_along entries entry =
    touched_after entries entry (line (laws entries)) (line (laws (entries ++ entry ∷ []))) []
    (line (laws (entries ++ entry ∷ [])))

-- those that are touched
abbrev pub days_told : List WorkTouched → List (List ℕ × ℕ)
days_told [] = []
days_told (t ∷ ts) = with_day (Some t.known.act.work) t.touched ++ days_told ts

-- the works that an entry touches which comes behind others, each with its touched day, in the order of the line
unfoldable pub touched_works : List Entry → Entry → List (List ℕ × ℕ)
touched_works entries entry = days_told (touched_along entries entry)

-- the touched day of a work, if an entry touches it
abbrev pub touched : List Entry → Entry → List ℕ → Option ℕ
touched entries entry work = day_among (touched_works entries entry) work
