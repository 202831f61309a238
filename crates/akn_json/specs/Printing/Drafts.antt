-- A draft as JSON, with the keys of each object in ascending byte order.
use Rattle.std.specs.Prelude.{List, map, codes}
use Rattle.serde_json.specs.Data.{Data, string, array, object, Items, no_members, member}
use Rattle.serde_json.specs.View.{items_of}
use Rattle.law_register.specs.declared.law.modification.Modification.{Modification}
use Rattle.law_register.specs.declared.law.modification.Modification.TheVariants.{Textual, Force, Efficacy}
use Rattle.law_register.specs.declared.register.draft.DraftItem.{DraftItem}
use Rattle.akn_json.specs.Printing.Bearings.{force_data, efficacy_data}
use Rattle.akn_json.specs.Printing.Edits.{textual_data}
use Rattle.akn_json.specs.Printing.Refusals.{number_data}

-- a modification, named by its one key
unfoldable pub modification_data : Modification → Data
modification_data (Textual source force edit) =
    object (member (codes "textualMod") (textual_data source force edit) no_members)
modification_data (Force source to on effect) =
    object (member (codes "forceMod") (force_data source to on effect) no_members)
modification_data (Efficacy source to on effect) =
    object (member (codes "efficacyMod") (efficacy_data source to on effect) no_members)

-- an item of a draft: its number, what it says, and the work that it modifies
abbrev pub draft_item_data : DraftItem → Data
draft_item_data i =
    object (member (codes "item") (number_data i.item)
    (member (codes "modification") (modification_data i.body)
    (member (codes "work") (string i.work) no_members)))

-- the items of a draft
abbrev pub draft_items_data : List DraftItem → Items
draft_items_data items = items_of (map draft_item_data items)

-- a draft
abbrev pub draft_value : List DraftItem → Data
draft_value items = object (member (codes "draft") (array (draft_items_data items)) no_members)
