-- The form of renumberings: provisions get nums, all at once.
use Rattle.std.specs.Prelude.{ℕ, List, [], ◌∷◌, Ok}
use Rattle.serde_json.specs.Data.{Data}
use Rattle.textual_mods.specs.declared.edit.TextualMod.{TextualMod}
use Rattle.textual_mods.specs.declared.edit.TextualMod.TheVariants.{Renumber}
use Rattle.akn_json.specs.declared.reading.key.Key.TheVariants as key
use Rattle.akn_json.specs.declared.reading.tables.TheConstants.{NEW_NUM}
use Rattle.akn_json.specs.Reading.Reads.{Read, ◌>>=◌, ◌>>◌}
use Rattle.akn_json.specs.Reading.Fields.{members_in, field_in, items_in, each, text_in}
use Rattle.akn_json.specs.Reading.Nodes.{num_in}

-- a provision, with the num that it gets
unfoldable pub pair_in : Data → Read (List ℕ × List ℕ)
pair_in d = do
  members_in NEW_NUM d
  w ← field_in key.Wid d
  wid ← text_in w
  n ← field_in key.Num d
  num ← num_in n
  Ok (wid, num)

-- a renumbering
unfoldable pub renumber_in : Data → Read TextualMod
renumber_in d = do
  r ← field_in key.Renumber d
  items ← items_in r
  pairs ← each pair_in items
  Ok (Renumber pairs)
