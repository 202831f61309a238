-- The form of modifications: each is a textual one, a change of force or one of efficacy.
pub mod EditKinds
pub mod Targets
pub mod Substitutions
pub mod Insertions
pub mod Renumberings
pub mod Splits
pub mod Edits
pub mod BearingKinds
pub mod Bearings
use Rattle.std.specs.Prelude.{ℕ, ◌+◌, Bool, true, false, List, [], ◌∷◌, Option, Some, None, Ok}
use Rattle.serde_json.specs.Data.{Data, Items, no_items, item, Members, no_members, member}
use Rattle.serde_json.specs.Find.{get, as_object}
use Rattle.akn_json.specs.declared.fault.FormRule.TheVariants.{WrongShape}
use Rattle.law_register.specs.declared.law.modification.Modification.{Modification}
use Rattle.law_register.specs.declared.law.modification.Modification.TheVariants.{Textual}
use Rattle.akn_json.specs.Reading.Modifications.EditKinds.{kind_in, form_in}
use Rattle.akn_json.specs.Reading.Modifications.Edits.{keys_in, edit_in}
use Rattle.akn_json.specs.declared.reading.key.Key.TheVariants as key
use Rattle.akn_json.specs.declared.reading.tables.TheConstants.{MODIFICATION}
use Rattle.akn_json.specs.Reading.Keys.{key_name}
use Rattle.akn_json.specs.Reading.Reads.{Read, ◌>>=◌, ◌>>◌, broken, inside, or_fault, unless_broken}
use Rattle.akn_json.specs.Reading.Fields.{members_in, field_in, items_in, period_in}
use Rattle.akn_json.specs.Reading.Names.{source_in}
use Rattle.akn_json.specs.Reading.Modifications.Bearings.{force_in, efficacy_in}

-- a textual modification: its kind, and what it brings, choose the table of its keys and values
unfoldable pub textual_in : Data → Read Modification
textual_in d = do
  kind ← kind_in d
  form ← form_in kind d
  keys_in form d
  s ← field_in key.Source d
  source ← source_in s
  f ← field_in key.Force d
  force ← period_in f
  edit ← edit_in form d
  Ok (Textual source force edit)

-- an object has one member
abbrev pub is_single : Members → Bool
is_single no_members = false
is_single (member name d no_members) = true
is_single (member name d (member other e ms)) = false

-- an object with one member
unfoldable pub single_in : Data → Read Unit
single_in d = do
  ms ← or_fault (broken WrongShape) (as_object d)
  unless_broken (broken WrongShape) (is_single ms)

-- the change of force that is stated, and else a change of efficacy
abbrev pub force_or : Option Data → Data → Read Modification
force_or (Some f) d = force_in f
force_or None d = do
  e ← field_in key.EfficacyMod d
  efficacy_in e

-- a change of force or of efficacy
unfoldable pub bearing_in : Data → Read Modification
bearing_in d = force_or (get (key_name key.ForceMod) d) d

-- the textual modification that is stated, and else a change of force or of efficacy
abbrev pub textual_or : Option Data → Data → Read Modification
textual_or (Some t) d = textual_in t
textual_or None d = bearing_in d

-- a modification, named by its one key
unfoldable pub modification_in : Data → Read Modification
modification_in d = do
  members_in MODIFICATION d
  single_in d
  textual_or (get (key_name key.TextualMod) d) d

-- these modifications, the first of which stands at this place
abbrev pub each_from : ℕ → Items → Read (List Modification)
each_from place no_items = Ok []
each_from place (item d ds) = do
  m ← inside place (modification_in d)
  rest ← each_from (place + 1) ds
  Ok (m ∷ rest)

-- the modifications of a dossier, in order, with places from 1
unfoldable pub mods_in : Data → Read (List Modification)
mods_in d = do
  items ← items_in d
  each_from 1 items
