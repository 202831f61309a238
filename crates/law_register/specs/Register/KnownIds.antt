-- What is known of an id, and of a work, by the law up to a viewpoint.
use Rattle.std.specs.Prelude.{ℕ, ◌+◌, ◌-◌, ◌==◌, List, [], ◌∷◌, ◌++◌, take, slice_get, Option, Some, None, option_map, if◌then◌else◌}
use Rattle.std.specs.Option.{option_or, option_to_list}
use Rattle.std.specs.Str.{bytes_eq}
use Rattle.desk_base.specs.declared.id.Id.{Id}
use Rattle.law_register.specs.declared.law.act.Act.{Act}
use Rattle.law_register.specs.declared.law.command.Command.{Command}
use Rattle.law_register.specs.declared.law.command.Command.TheVariants.{Enact, Record, Correct, Withdraw, Restore}
use Rattle.law_register.specs.declared.register.entry.Entry.{Entry}
use Rattle.law_register.specs.declared.register.known.Known.{Known}
use Rattle.law_register.specs.declared.register.known.KnownMod.{KnownMod}
use Rattle.law_register.specs.declared.law.modification.Modification.{Modification}
use Rattle.law_register.specs.declared.register.standing.Standing.{Standing}
use Rattle.law_register.specs.declared.register.standing.Standing.TheVariants.{Live, Withdrawn}
use Rattle.law_register.specs.Answer.Counted.{is_same_id}
use Rattle.law_register.specs.Register.LawList.{laws, front}
use Rattle.law_register.specs.Register.Standings.{is_live}

-- what is known of an id: the work that it modifies, what it says, and whether it stands
pub record IdFacts : Type 0 where
  pub work : List ℕ
  pub body : Modification
  pub standing : Standing

-- the item of a record, counted from 1
abbrev pub item_at : ℕ → List Modification → Option Modification
item_at item mods = if item == 0 then None else slice_get mods (item - 1)

-- an id that is recorded stands
abbrev pub first_facts : List ℕ → Option Modification → Option IdFacts
first_facts work body = option_map (λ m. record { work = work; body = m; standing = Live }) body

-- what is known of an id once it says something else
abbrev pub corrected : Modification → IdFacts → IdFacts
corrected body f = record f { body = body }

-- what is known of an id once it is withdrawn by the law entry of this number, or restored
abbrev pub marked : Standing → IdFacts → IdFacts
marked standing f = record f { standing = standing }

-- what law entry `number` makes of what is known of an id: it is recorded as item of that number, corrected, withdrawn, or restored
abbrev pub facts_after : Id → ℕ → Command → Option IdFacts → Option IdFacts
facts_after id number (Record work mods) facts =
    if id.law == number then first_facts work (item_at id.item mods) else facts
facts_after id number (Correct other body) facts =
    if is_same_id other id then option_map (corrected body) facts else facts
facts_after id number (Withdraw other) facts =
    if is_same_id other id then option_map (marked (Withdrawn number)) facts else facts
facts_after id number (Restore other) facts = if is_same_id other id then option_map (marked Live) facts else facts
facts_after id number _ facts = facts

-- what law entries, of which the first has this number, make of what is known of an id
abbrev pub facts_from : Id → ℕ → Option IdFacts → List Command → Option IdFacts
facts_from id number facts [] = facts
facts_from id number facts (law ∷ laws) = facts_from id (number + 1) (facts_after id number law facts) laws

-- what is known of an id by the law
abbrev pub facts_of : Id → List Command → Option IdFacts
facts_of id laws = facts_from id 1 None laws

-- the act that a law entry enacts, if it is the act of this work
abbrev pub enacted_by : List ℕ → Command → Option Act
enacted_by work (Enact act) = if bytes_eq act.work work then Some act else None
enacted_by work _ = None

-- an act with the number of the law entry that enacts it, or else what later entries tell
abbrev pub enacted_or : ℕ → Option Act → Option (ℕ × Act) → Option (ℕ × Act)
enacted_or number act later = option_or (option_map (λ a. (number, a)) act) later

-- the act of a work and the number of the law entry that enacts it, where the first of these entries has this number
abbrev pub enacted_from : ℕ → List ℕ → List Command → Option (ℕ × Act)
enacted_from number work [] = None
enacted_from number work (law ∷ laws) = enacted_or number (enacted_by work law) (enacted_from (number + 1) work laws)

-- the act of a work and the number of the law entry that enacts it
abbrev pub enacted : List ℕ → List Command → Option (ℕ × Act)
enacted work laws = enacted_from 1 work laws

-- the ids of the items of law entry `number`, of which the first is item `item`
abbrev pub ids_from_item : ℕ → ℕ → List Modification → List Id
ids_from_item number item [] = []
ids_from_item number item (m ∷ ms) = record { law = number; item = item } ∷ ids_from_item number (item + 1) ms

-- the ids that law entry `number` records in a work
abbrev pub ids_recorded : ℕ → List ℕ → Command → List Id
ids_recorded number work (Record other mods) = if bytes_eq other work then ids_from_item number 1 mods else []
ids_recorded number work _ = []

-- the ids that law entries record in a work, where the first of these entries has this number
abbrev pub ids_from : ℕ → List ℕ → List Command → List Id
ids_from number work [] = []
ids_from number work (law ∷ laws) = ids_recorded number work law ++ ids_from (number + 1) work laws

-- the ids of a work, ascending
abbrev pub ids_of : List ℕ → List Command → List Id
ids_of work laws = ids_from 1 work laws

-- an id as it is known
abbrev pub known_as : Id → Option IdFacts → List KnownMod
known_as id facts =
    option_to_list (option_map (λ f. record { id = id; live = is_live f.standing; body = f.body; carried = None }) facts)

-- these ids as they are known by the law
abbrev pub known_ids : List Command → List Id → List KnownMod
known_ids laws [] = []
known_ids laws (id ∷ ids) = known_as id (facts_of id laws) ++ known_ids laws ids

-- what the law entries up to a viewpoint make known of a work whose act they enact
abbrev pub known_by : List ℕ → ℕ → ℕ → List Command → Option (ℕ × Act) → Option Known
known_by work viewpoint front laws None = None
known_by work viewpoint front laws (Some found) = Some (record {
  act = found.1;
  enacted = found.0;
  viewpoint = viewpoint;
  front = front;
  mods = known_ids laws (ids_of work laws);
  source_days = [];
})

-- what is known of a work at a viewpoint: nothing, if none of the law entries numbered at most so enacts it
abbrev pub known_at : List Entry → List ℕ → ℕ → Option Known
known_at entries work viewpoint =
    known_by work viewpoint (front entries) (take viewpoint (laws entries))
    (enacted work (take viewpoint (laws entries)))
