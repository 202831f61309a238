-- The law entries that concern a work, its ids by their marks, and the items of a draft by theirs.
use Rattle.std.specs.Prelude.{ℕ, ◌+◌, nat_le, List, [], ◌∷◌, ◌++◌, length, Option, Some, None, option_map, if◌then◌else◌}
use Rattle.std.specs.Option.{option_and_then, option_map_or, option_to_list}
use Rattle.desk_base.specs.declared.id.Id.{Id}
use Rattle.law_register.specs.declared.law.act.Act.{Act}
use Rattle.law_register.specs.declared.law.command.Command.{Command}
use Rattle.law_register.specs.declared.register.draft.DraftItem.{DraftItem}
use Rattle.law_register.specs.declared.register.entry.Entry.{Entry}
use Rattle.law_register.specs.declared.register.indexes.BodyMark.{BodyMark}
use Rattle.law_register.specs.declared.register.indexes.EnactedMark.{EnactedMark}
use Rattle.law_register.specs.declared.register.indexes.IdMark.{IdMark}
use Rattle.law_register.specs.declared.register.indexes.ItemMark.{ItemMark}
use Rattle.law_register.specs.declared.register.known.KnownMod.{KnownMod}
use Rattle.law_register.specs.declared.register.standing.Standing.{Standing}
use Rattle.law_register.specs.declared.law.modification.Modification.{Modification}
use Rattle.law_register.specs.Register.Indexes.{told_at, work_named, act_of, body_of, id_after}
use Rattle.law_register.specs.Register.KnownIds.{IdFacts}
use Rattle.law_register.specs.Register.Concerns.{is_of, concerns}
use Rattle.law_register.specs.Register.Standings.{is_live}

-- the numbers of those of these law entries that concern a work, behind others and before those that were found, newest first
abbrev pub numbers_from : List Command → List ℕ → List ℕ → List Command → List ℕ
numbers_from before work found [] = found
numbers_from before work found (law ∷ laws) =
    numbers_from (before ++ law ∷ []) work
    (if concerns before work law then (length before + 1) ∷ found else found) laws

-- the numbers of the law entries that concern a work, newest first
abbrev pub numbers_on : List ℕ → List Command → List ℕ
numbers_on work law = numbers_from [] work [] law

-- a number that is at most a viewpoint
abbrev pub number_within : ℕ → ℕ → List ℕ
number_within viewpoint number = if nat_le number viewpoint then number ∷ [] else []

-- the mark of an act that a law entry up to a viewpoint enacts
abbrev pub enacted_within : ℕ → Option EnactedMark → Option EnactedMark
enacted_within viewpoint m = option_and_then (λ k. if nat_le k.number viewpoint then Some k else None) m

-- what is known of an id, if it is recorded in a work
abbrev pub own_facts : List ℕ → Option IdFacts → Option IdFacts
own_facts work f = if is_of work f then f else None

-- the mark of an id after law entry `number`, which stands at this index and records these modifications, if there is an entry
abbrev pub id_told : ℕ → ℕ → List BodyMark → Id → Option IdMark → Option Entry → Option IdMark
id_told number at bodies id m entry = option_map_or (λ e. id_after number at e.command bodies id m) entry m

-- the ids of the modifications that law entry `number` records, of which the first is item `item`
abbrev pub ids_marked : ℕ → ℕ → List BodyMark → List Id
ids_marked number item [] = []
ids_marked number item (b ∷ bodies) = record { law = number; item = item } ∷ ids_marked number (item + 1) bodies

-- an id as it is known, by its mark
abbrev pub known_told : Id → Standing → Option Modification → List KnownMod
known_told id standing said =
    option_to_list (option_map (λ body. record { id = id; live = is_live standing; body = body; carried = None }) said)

abbrev pub known_mark : List Entry → Id → Option IdMark → List KnownMod
known_mark entries id m = option_map_or (λ k. known_told id k.standing (told_at entries k.entry (body_of k.place))) m []

-- ids as they are known, by their marks
abbrev pub known_marks : List Entry → (Id → Option IdMark) → List Id → List KnownMod
known_marks entries mark [] = []
known_marks entries mark (id ∷ ids) = known_mark entries id (mark id) ++ known_marks entries mark ids

-- the works that the entries at these indexes enact
abbrev pub work_told : Option Act → List (List ℕ)
work_told act = option_to_list (option_map (λ a. a.work) act)

abbrev pub works_at : List Entry → List ℕ → List (List ℕ)
works_at entries [] = []
works_at entries (at ∷ ats) = work_told (told_at entries at act_of) ++ works_at entries ats

-- an item of a draft, by its mark
abbrev pub item_told : ℕ → Option (List ℕ) → Option Modification → List DraftItem
item_told item (Some work) (Some body) = record { item = item; work = work; body = body } ∷ []
item_told item _ _ = []

abbrev pub item_marked : List Entry → ItemMark → List DraftItem
item_marked entries m = item_told m.item (told_at entries m.entry work_named) (told_at entries m.entry (body_of 0))

-- items of a draft, by their marks
abbrev pub items_marked : List Entry → List ItemMark → List DraftItem
items_marked entries [] = []
items_marked entries (m ∷ ms) = item_marked entries m ++ items_marked entries ms
