-- What one more entry makes of the marks of the indexes.
use Rattle.std.specs.Prelude.{◌≡◌, ℕ, ◌+◌, ◌-◌, ◌<◌, ◌≤◌, ◌^◌, ◌==◌, ◌&&◌, ◌||◌, true, List, [], ◌∷◌, ◌++◌, length, filter, map, slice_get, Option, Some, is_some, if◌then◌else◌}
use Rattle.std.specs.Option.{option_map_or}
use Rattle.std.specs.Str.{bytes_eq}
use Rattle.indexmap.specs.IndexMap.{index_map_len}
use Rattle.desk_base.specs.declared.id.Id.{Id}
use Rattle.law_register.specs.declared.law.command.Command.{Command}
use Rattle.law_register.specs.declared.law.command.Command.TheVariants.{Enact, Record, DraftAdd, DraftDrop, File}
use Rattle.law_register.specs.declared.register.entry.Entry.{Entry}
use Rattle.law_register.specs.declared.register.indexes.BodyMark.{BodyMark}
use Rattle.law_register.specs.declared.register.indexes.Indexes.{Indexes}
use Rattle.law_register.specs.declared.register.indexes.ItemMark.{ItemMark}
use Rattle.law_register.specs.declared.register.indexes.StepMark.{StepMark}
use Rattle.law_register.specs.declared.register.indexes.WorkMark.{WorkMark}
use Rattle.law_register.specs.declared.law.modification.Modification.{Modification}
use Rattle.law_register.specs.declared.register.verdict.Reply.{Reply}
use Rattle.law_register.specs.Register.Concerns.{is_named}
use Rattle.law_register.specs.Register.Drafts.{additions}
use Rattle.law_register.specs.Register.Indexes.{marks_work, request_mark, drafter_mark, work_mark, id_mark, added_of, items_in, last_in, ids_in, items_after, id_after, concerned_by, work_after}
use Rattle.law_register.specs.Law.Sizes.{entry_size}
use Rattle.law_register.specs.declared.register.limits.TheConstants.{MOST_DRAFT_ITEMS, MOST_IDS, MOST_LAWS, MOST_REGISTER_BYTES}
use Rattle.textual_mods.specs.declared.fitting.TheConstants.{MAX_ITEMS}

-- the modifications of a record
abbrev pub mods_of : Command → List Modification
mods_of (Record work mods) = mods
mods_of _ = []

-- 1 for a law entry, 0 for an entry of a draft
abbrev pub law_count : Command → ℕ
law_count (DraftAdd work body) = 0
law_count (DraftDrop item) = 0
law_count _ = 1

-- the marks of the modifications of a record, which stands at this index, from a place on
abbrev pub places : ℕ → ℕ → List Modification → List BodyMark
places at place [] = []
places at place (m ∷ ms) = record { entry = at; place = place } ∷ places at (place + 1) ms

-- the mark of what an item of a draft says
abbrev pub item_body : ItemMark → BodyMark
item_body m = record { entry = m.entry; place = 0 }

-- the marks of the modifications that a command, at this index, records: those of a record, or of the items that it files
abbrev pub bodies_of : List Entry → ℕ → List ItemMark → Command → List BodyMark
bodies_of entries at draft (Record work mods) = places at 0 mods
bodies_of entries at draft (File work seen) = map item_body (filter (marks_work entries work) draft)
bodies_of entries at draft _ = []

-- the marks of the modifications that an entry behind others records
abbrev pub new_bodies : Indexes → List Entry → Entry → List BodyMark
new_bodies ix entries e = bodies_of entries (length entries) (items_in (drafter_mark ix e.drafter)) e.command

-- the last law entry that concerns a work which a command concerns, 0 if it concerns none
abbrev pub last_before : (List ℕ → Option WorkMark) → Option (List ℕ) → ℕ
last_before mark work = option_map_or (λ w. last_in (mark w)) work 0

-- the steps with that of a command, if it is that of a law entry
abbrev pub with_step : Command → StepMark → List StepMark → List StepMark
with_step (DraftAdd work body) s steps = steps
with_step (DraftDrop item) s steps = steps
with_step _ s steps = steps ++ s ∷ []

-- the indexes of the entries that enact, with that of a command which stands at one
abbrev pub with_act : Command → ℕ → List ℕ → List ℕ
with_act (Enact act) at ats = ats ++ at ∷ []
with_act _ at ats = ats

-- the step of an entry behind others
abbrev pub new_step : Indexes → List Entry → Entry → StepMark
new_step ix entries e = record {
  entry = length entries;
  first = length ix.bodies.items;
  until = length ix.bodies.items + length (new_bodies ix entries e);
  before = last_before (work_mark ix) (concerned_by entries (id_mark ix) e.command);
}

-- the last of these entries is of a drafter
abbrev pub IsOfLast : List Entry → List ℕ → Type 0
IsOfLast entries drafter = (last : Entry) × (slice_get entries (length entries - 1) ≡ Some last) × (last.drafter ≡ drafter)

-- whoever sent the last entry has a mark, and all numbers stay within their types
pub record CanNote (ix : Indexes) (entries : List Entry) (e : Entry) : Type 0 where
  pub last : (drafter : List ℕ) → IsOfLast entries drafter → is_some (drafter_mark ix drafter) ≡ true
  pub front : ix.front ≤ MOST_LAWS
  pub size : ix.size + entry_size e < 2 ^ 64
  pub ids : (work : List ℕ) → ids_in (work_mark ix work) ≤ MOST_IDS
  pub items : length (items_in (drafter_mark ix e.drafter)) + additions e.command ≤ MOST_DRAFT_ITEMS
  pub added : added_of (drafter_mark ix e.drafter) ≤ MOST_REGISTER_BYTES
  pub mods : length (mods_of e.command) ≤ MAX_ITEMS

-- an entry, which got this reply, is noted behind others
pub record IsNoted (old new : Indexes) (entries : List Entry) (e : Entry) (reply : Reply) : Type 0 where
  pub requests : (d : List ℕ) (r : ℕ) → request_mark new d r
      ≡ (if bytes_eq e.drafter d && (e.request == r)
      then Some (record { entry = length entries; reply = reply }) else request_mark old d r)
  pub added : (d : List ℕ) → added_of (drafter_mark new d)
      ≡ (if bytes_eq e.drafter d
      then added_of (drafter_mark old d) + additions e.command else added_of (drafter_mark old d))
  pub items : (d : List ℕ) → items_in (drafter_mark new d)
      ≡ (if bytes_eq e.drafter d then items_after entries (length entries) (added_of (drafter_mark old d) + 1) e.command
      (items_in (drafter_mark old d))
      else items_in (drafter_mark old d))
  pub present : (d : List ℕ) → is_some (drafter_mark new d) ≡ bytes_eq e.drafter d || is_some (drafter_mark old d)
  pub count : index_map_len new.drafters
      ≡ index_map_len old.drafters + (if is_some (drafter_mark old e.drafter) then 0 else 1)
  pub works : (w : List ℕ) → work_mark new w
      ≡ (if is_named w (concerned_by entries (id_mark old) e.command)
      then Some (work_after (old.front + 1) (length entries) e.command (length (new_bodies old entries e))
      (work_mark old w))
      else work_mark old w)
  pub ids : (i : Id) → id_mark new i
      ≡ id_after (old.front + 1) (length entries) e.command (new_bodies old entries e) i (id_mark old i)
  pub steps : new.steps.items ≡ with_step e.command (new_step old entries e) old.steps.items
  pub bodies : new.bodies.items ≡ old.bodies.items ++ new_bodies old entries e
  pub acts : new.acts.items ≡ with_act e.command (length entries) old.acts.items
  pub front : new.front ≡ old.front + law_count e.command
  pub size : new.size ≡ old.size + entry_size e
