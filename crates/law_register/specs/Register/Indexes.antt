-- What the indexes of a register stand for.
use Rattle.std.specs.Prelude.{◌≡◌, ◌+◌, ◌-◌, ◌≤◌, if◌then◌else◌, ℕ, ◌==◌, Bool, true, false, ◌&&◌, List, [], ◌∷◌, ◌++◌, not, length, filter, take, drop, slice_get, Option, Some, None, option_map, is_some}
use Rattle.std.specs.List.{list_any}
use Rattle.std.specs.Option.{option_and_then, option_map_or, option_or}
use Rattle.std.specs.Str.{bytes_eq}
use Rattle.arrayvec.specs.declared.array_vec.ArrayVec.{ArrayVec}
use Rattle.indexmap.specs.IndexMap.{IndexMap, get_by, index_map_len}
use Rattle.desk_base.specs.declared.id.Id.{Id}
use Rattle.law_register.specs.declared.law.act.Act.{Act}
use Rattle.law_register.specs.declared.law.command.Command.{Command}
use Rattle.law_register.specs.declared.law.command.Command.TheVariants.{Enact, Record, Correct, Withdraw, Restore, DraftAdd, DraftDrop, File}
use Rattle.law_register.specs.declared.register.draft.DraftItem.{DraftItem}
use Rattle.law_register.specs.declared.register.entry.Entry.{Entry}
use Rattle.law_register.specs.declared.register.indexes.BodyMark.{BodyMark}
use Rattle.law_register.specs.declared.register.indexes.DrafterMark.{DrafterMark}
use Rattle.law_register.specs.declared.register.indexes.EnactedMark.{EnactedMark}
use Rattle.law_register.specs.declared.register.indexes.IdMark.{IdMark}
use Rattle.law_register.specs.declared.register.indexes.Indexes.{Indexes}
use Rattle.law_register.specs.declared.register.indexes.ItemMark.{ItemMark}
use Rattle.law_register.specs.declared.register.indexes.RequestKey.{RequestKey}
use Rattle.law_register.specs.declared.register.indexes.RequestMark.{RequestMark}
use Rattle.law_register.specs.declared.register.indexes.StepMark.{StepMark}
use Rattle.law_register.specs.declared.register.indexes.WorkMark.{WorkMark}
use Rattle.law_register.specs.declared.law.modification.Modification.{Modification}
use Rattle.law_register.specs.declared.register.standing.Standing.{Standing}
use Rattle.law_register.specs.declared.register.standing.Standing.TheVariants.{Live, Withdrawn}
use Rattle.law_register.specs.declared.register.verdict.Reply.{Reply}
use Rattle.law_register.specs.Answer.Counted.{is_same_id}
use Rattle.law_register.specs.Register.Drafts.{added, draft_of}
use Rattle.law_register.specs.Register.KnownIds.{IdFacts, facts_of, enacted, ids_of}
use Rattle.law_register.specs.Register.LawList.{acts_of, laws, front}
use Rattle.law_register.specs.Law.Sizes.{entries_size}
use Rattle.law_register.specs.Register.Concerns.{is_named, concerned, concerns}
use Rattle.law_register.specs.Register.Verdicts.{request_of, drafters, last_on}

-- what an entry's command tells, if there is an entry
abbrev pub told : {X : Type 0} → (Command → Option X) → Option Entry → Option X
told tells entry = option_and_then (λ e. tells e.command) entry

-- what the command of the entry at an index tells
abbrev pub told_at : {X : Type 0} → List Entry → ℕ → (Command → Option X) → Option X
told_at entries i tells = told tells (slice_get entries i)

-- the work that a command names
abbrev pub work_named : Command → Option (List ℕ)
work_named (Enact act) = Some act.work
work_named (Record work mods) = Some work
work_named (DraftAdd work body) = Some work
work_named (File work seen) = Some work
work_named _ = None

-- the act that a command enacts
abbrev pub act_of : Command → Option Act
act_of (Enact act) = Some act
act_of _ = None

-- the modification that a command brings: the one at a place of a record, or else its only one
abbrev pub body_of : ℕ → Command → Option Modification
body_of place (Record work mods) = slice_get mods place
body_of place (Correct id body) = Some body
body_of place (DraftAdd work body) = Some body
body_of place _ = None

-- the mark of an item leads to an entry that names a work
abbrev pub marks_work : List Entry → List ℕ → ItemMark → Bool
marks_work entries work m = is_named work (told_at entries m.entry work_named)

-- the marks of a drafter, a work and an id, where the keys of drafters and works are the bytes of their names
module _ {V S : Type 0} where
  abbrev pub drafter_in : IndexMap (ArrayVec ℕ 32 (Unit {0})) V S → List ℕ → Option V
  drafter_in marks drafter = get_by (λ k. bytes_eq drafter k.items) marks

  abbrev pub work_in : IndexMap (ArrayVec ℕ 162 (Unit {0})) V S → List ℕ → Option V
  work_in marks work = get_by (λ k. bytes_eq work k.items) marks

  abbrev pub id_in : IndexMap Id V S → Id → Option V
  id_in marks id = get_by (is_same_id id) marks

-- the same, and that of a request, in the indexes
abbrev pub is_request : List ℕ → ℕ → RequestKey → Bool
is_request drafter request k = bytes_eq drafter k.drafter.items && (request == k.request)

abbrev pub request_mark : Indexes → List ℕ → ℕ → Option RequestMark
request_mark ix drafter request = get_by (is_request drafter request) ix.requests

abbrev pub drafter_mark : Indexes → List ℕ → Option DrafterMark
drafter_mark ix drafter = drafter_in ix.drafters drafter

abbrev pub work_mark : Indexes → List ℕ → Option WorkMark
work_mark ix work = work_in ix.works work

abbrev pub id_mark : Indexes → Id → Option IdMark
id_mark ix id = id_in ix.ids id

-- a request's mark leads to its entry, and has the reply
abbrev pub RequestStands : List Entry → Option RequestMark → Option (Entry × Reply) → Type 0
RequestStands entries None None = Unit {0}
RequestStands entries (Some m) (Some found) = (slice_get entries m.entry ≡ Some found.0) × (m.reply ≡ found.1)
RequestStands entries None (Some found) = ⊥
RequestStands entries (Some m) None = ⊥

-- how many items a drafter has added, and the marks of those in the draft: none without a mark
abbrev pub added_of : Option DrafterMark → ℕ
added_of m = option_map_or (λ k. k.added) m 0

abbrev pub items_in : Option DrafterMark → List ItemMark
items_in m = option_map_or (λ k. k.items.items) m []

-- the marks of items lead to the entries that added them
abbrev pub ItemsStand : List Entry → List ItemMark → List DraftItem → Type 0
ItemsStand entries [] [] = Unit {0}
ItemsStand entries (m ∷ ms) (i ∷ items) =
    (m.item ≡ i.item) × (told_at entries m.entry work_named ≡ Some i.work)
    × (told_at entries m.entry (body_of 0) ≡ Some i.body) × ItemsStand entries ms items
ItemsStand entries [] (i ∷ items) = ⊥
ItemsStand entries (m ∷ ms) [] = ⊥

-- a drafter's mark counts what was added, and leads to the items of the draft
pub record DraftStands (entries : List Entry) (m : Option DrafterMark) (count : ℕ)
    (draft : List DraftItem) : Type 0 where
  pub added : added_of m ≡ count
  pub items : ItemsStand entries (items_in m) draft

-- what a work's mark says: nothing without a mark
abbrev pub enacted_in : Option WorkMark → Option EnactedMark
enacted_in m = option_and_then (λ k. k.enacted) m

abbrev pub last_in : Option WorkMark → ℕ
last_in m = option_map_or (λ k. k.last) m 0

abbrev pub ids_in : Option WorkMark → ℕ
ids_in m = option_map_or (λ k. k.ids) m 0

-- the mark of an id that is recorded by the entry at an index
abbrev pub recorded_mark : ℕ → BodyMark → IdMark
recorded_mark at b = record { recorded = at; entry = b.entry; place = b.place; standing = Live }

-- the mark of an id after the entry at an index, law entry `number`, records modifications, of which the first is item `item`
abbrev pub recorded_from : ℕ → ℕ → ℕ → List BodyMark → Id → Option IdMark → Option IdMark
recorded_from number at item [] id m = m
recorded_from number at item (b ∷ bs) id m =
    recorded_from number at (item + 1) bs id
    (if is_same_id (record { law = number; item = item }) id then Some (recorded_mark at b) else m)

-- the marks of a draft's items after a command of its drafter at this index, where `number` is that of the next item
abbrev pub items_after : List Entry → ℕ → ℕ → Command → List ItemMark → List ItemMark
items_after entries at number (DraftAdd work body) ms = ms ++ record { item = number; entry = at } ∷ []
items_after entries at number (DraftDrop item) ms = filter (λ m. not (m.item == item)) ms
items_after entries at number (File work seen) ms = filter (λ m. not (marks_work entries work m)) ms
items_after entries at number _ ms = ms

-- a command leaves the items of every draft as they are
abbrev pub leaves_drafts : Command → Bool
leaves_drafts (DraftAdd work body) = false
leaves_drafts (DraftDrop item) = false
leaves_drafts (File work seen) = false
leaves_drafts _ = true

-- an id's mark after it is corrected by the entry at this index, and after it is withdrawn or restored
abbrev pub corrected : ℕ → IdMark → IdMark
corrected at m = record { recorded = m.recorded; entry = at; place = 0; standing = m.standing }

abbrev pub with_standing : Standing → IdMark → IdMark
with_standing standing m = record { recorded = m.recorded; entry = m.entry; place = m.place; standing = standing }

-- the mark of an id after the command of law entry `number`, which stands at this index and records these modifications
abbrev pub id_after : ℕ → ℕ → Command → List BodyMark → Id → Option IdMark → Option IdMark
id_after number at (Record work mods) bodies id m = recorded_from number at 1 bodies id m
id_after number at (File work seen) bodies id m = recorded_from number at 1 bodies id m
id_after number at (Correct other body) bodies id m = if is_same_id other id then option_map (corrected at) m else m
id_after number at (Withdraw other) bodies id m =
    if is_same_id other id then option_map (with_standing (Withdrawn number)) m else m
id_after number at (Restore other) bodies id m = if is_same_id other id then option_map (with_standing Live) m else m
id_after number at _ bodies id m = m

-- the mark of an act after the command of law entry `number`, which stands at this index: the first that is enacted stays
abbrev pub newly_enacted : ℕ → ℕ → Command → Option EnactedMark
newly_enacted number at (Enact act) = Some (record { entry = at; number = number })
newly_enacted number at _ = None

abbrev pub enacted_after : ℕ → ℕ → Command → Option EnactedMark → Option EnactedMark
enacted_after number at command m = option_or m (newly_enacted number at command)

-- the mark of a work after a law entry that concerns it, and records so many modifications
abbrev pub work_after : ℕ → ℕ → Command → ℕ → Option WorkMark → WorkMark
work_after number at command count m =
    record { enacted = enacted_after number at command (enacted_in m); last = number; ids = ids_in m + count }

-- the work of an id, by its mark, and the work that a command concerns, by the marks of ids
abbrev pub work_of_mark : List Entry → Option IdMark → Option (List ℕ)
work_of_mark entries m = option_and_then (λ k. told_at entries k.recorded work_named) m

abbrev pub concerned_by : List Entry → (Id → Option IdMark) → Command → Option (List ℕ)
concerned_by entries mark command = concerned (λ id. work_of_mark entries (mark id)) command

-- marks lead to modifications
abbrev pub BodiesStand : List Entry → List BodyMark → List Modification → Type 0
BodiesStand entries [] [] = Unit {0}
BodiesStand entries (b ∷ bs) (m ∷ ms) = (told_at entries b.entry (body_of b.place) ≡ Some m) × BodiesStand entries bs ms
BodiesStand entries [] (m ∷ ms) = ⊥
BodiesStand entries (b ∷ bs) [] = ⊥

-- the mark of an act leads to the entry that enacts it, and has the number of the law entry
abbrev pub EnactedStands : List Entry → Option EnactedMark → Option (ℕ × Act) → Type 0
EnactedStands entries None None = Unit {0}
EnactedStands entries (Some m) (Some found) = (m.number ≡ found.0) × (told_at entries m.entry act_of ≡ Some found.1)
EnactedStands entries None (Some found) = ⊥
EnactedStands entries (Some m) None = ⊥

-- a work's mark leads to its act, has the last law entry that concerns it, and counts its ids
pub record WorkStands (entries : List Entry) (m : Option WorkMark) (found : Option (ℕ × Act))
    (number count : ℕ) : Type 0 where
  pub act : EnactedStands entries (enacted_in m) found
  pub last : last_in m ≡ number
  pub ids : ids_in m ≡ count

-- these are the indexes of the entries that enact acts
abbrev pub ActsStand : List Entry → List ℕ → List Act → Type 0
ActsStand entries [] [] = Unit {0}
ActsStand entries (at ∷ ats) (act ∷ acts) = (told_at entries at act_of ≡ Some act) × ActsStand entries ats acts
ActsStand entries [] (act ∷ acts) = ⊥
ActsStand entries (at ∷ ats) [] = ⊥

-- an id's mark leads to the entry that recorded it, which names its work, and to the entry that brings what it says
abbrev pub IdStands : List Entry → Option IdMark → Option IdFacts → Type 0
IdStands entries None None = Unit {0}
IdStands entries (Some m) (Some f) =
    (told_at entries m.recorded work_named ≡ Some f.work)
    × (told_at entries m.entry (body_of m.place) ≡ Some f.body) × (m.standing ≡ f.standing)
IdStands entries None (Some f) = ⊥
IdStands entries (Some m) None = ⊥

-- where a law entry brings what it records
abbrev pub bodies_at : List BodyMark → StepMark → List BodyMark
bodies_at bodies s = take (s.until - s.first) (drop s.first bodies)

-- the work for which a command records
abbrev pub recorded_for : Command → Option (List ℕ)
recorded_for (Record work mods) = Some work
recorded_for (File work seen) = Some work
recorded_for _ = None

-- the entry at an index is this to the law, and its modifications are those to which marks lead
abbrev pub LawStands : List Entry → ℕ → List BodyMark → Command → Type 0
LawStands entries at bodies (Record work mods) =
    (told_at entries at recorded_for ≡ Some work) × BodiesStand entries bodies mods
LawStands entries at bodies (File work seen) = ⊥
LawStands entries at bodies (DraftAdd work body) = ⊥
LawStands entries at bodies (DraftDrop item) = ⊥
LawStands entries at bodies law = (told_at entries at (λ c. Some c) ≡ Some law) × (bodies ≡ [])

-- the step of a law entry behind others leads to it, and to the last one before it that concerns the same work
pub record StepStands (entries : List Entry) (bodies : List BodyMark) (earlier : List Command) (s : StepMark)
    (l : Command) : Type 0 where
  pub law : LawStands entries s.entry (bodies_at bodies s) l
  pub first : s.first ≤ s.until
  pub until : s.until ≤ length bodies
  pub before : (work : List ℕ) → concerns earlier work l ≡ true → s.before ≡ last_on work earlier

-- the steps of law entries behind others
abbrev pub StepsStand : List Entry → List BodyMark → List Command → List StepMark → List Command → Type 0
StepsStand entries bodies before [] [] = Unit {0}
StepsStand entries bodies before (s ∷ steps) (law ∷ laws) =
    StepStands entries bodies before s law × StepsStand entries bodies (before ++ law ∷ []) steps laws
StepsStand entries bodies before [] (law ∷ laws) = ⊥
StepsStand entries bodies before (s ∷ steps) [] = ⊥

-- what the indexes tell is what the definitions tell of the entries
pub record StandFor (ix : Indexes) (entries : List Entry) : Type 0 where
  pub requests : (drafter : List ℕ) (request : ℕ)
      → RequestStands entries (request_mark ix drafter request) (request_of entries drafter request)
  pub drafts : (drafter : List ℕ)
      → DraftStands entries (drafter_mark ix drafter) (added drafter entries) (draft_of drafter entries)
  pub present : (drafter : List ℕ) → is_some (drafter_mark ix drafter) ≡ list_any (bytes_eq drafter) (drafters entries)
  pub drafter_count : index_map_len ix.drafters ≡ length (drafters entries)
  pub works : (work : List ℕ) → WorkStands entries (work_mark ix work) (enacted work (laws entries))
      (last_on work (laws entries)) (length (ids_of work (laws entries)))
  pub ids : (id : Id) → IdStands entries (id_mark ix id) (facts_of id (laws entries))
  pub steps : StepsStand entries ix.bodies.items [] ix.steps.items (laws entries)
  pub acts : ActsStand entries ix.acts.items (acts_of (laws entries))
  pub front : ix.front ≡ front entries
  pub size : ix.size ≡ entries_size entries
