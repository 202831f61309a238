-- A draft and a modification, as whoever is told them reads them by the forms.
use Rattle.std.specs.Prelude.{ℕ, Bool, List, codes, Ok}
use Rattle.std.specs.List.{list_all}
use Rattle.serde_json.specs.Data.{Data}
use Rattle.serde_json.specs.Find.{get}
use Rattle.law_register.specs.Law.Spellable.{can_spell_modification}
use Rattle.law_register.specs.Law.Spelling.{is_spelled_modification}
use Rattle.law_register.specs.declared.law.modification.Modification.{Modification}
use Rattle.law_register.specs.declared.register.draft.DraftItem.{DraftItem}
use Rattle.akn_json.specs.declared.fault.FormRule.TheVariants.{WrongShape, NotJson}
use Rattle.akn_json.specs.declared.reading.key.Key.TheVariants as key
use Rattle.akn_json.specs.Reading.Bytes.{json_of}
use Rattle.akn_json.specs.Reading.Reads.{Read, ◌>>=◌, broken, or_fault}
use Rattle.akn_json.specs.Reading.Fields.{field_in, items_in, each, number_in}
use Rattle.akn_json.specs.Reading.Names.{work_in}
use Rattle.akn_json.specs.Reading.Modifications.{modification_in}

-- an item: its number, its work and what it says
unfoldable pub draft_item_in : Data → Read DraftItem
draft_item_in d = do
  n ← field_in key.Item d
  item ← number_in 4294967295 n
  w ← field_in key.Work d
  work ← work_in w
  m ← field_in key.Modification d
  body ← modification_in m
  Ok (record { item = item; work = work; body = body })

-- the items of a draft, in order
unfoldable pub draft_in : Data → Read (List DraftItem)
draft_in d = do
  list ← or_fault (broken WrongShape) (get (codes "draft") d)
  items ← items_in list
  each draft_item_in items

-- the draft that bytes tell
abbrev pub draft_told : List ℕ → Read (List DraftItem)
draft_told bytes = do
  d ← or_fault (broken NotJson) (json_of bytes)
  draft_in d

-- the modification that bytes tell
abbrev pub modification_told : List ℕ → Read Modification
modification_told bytes = do
  d ← or_fault (broken NotJson) (json_of bytes)
  modification_in d

-- the modification of each item is well spelled, and can be spelled as bytes
abbrev pub are_spelled_items : List DraftItem → Bool
are_spelled_items items = list_all (λ i. is_spelled_modification i.body) items

abbrev pub can_spell_items : List DraftItem → Bool
can_spell_items items = list_all (λ i. can_spell_modification i.body) items
