-- The forms of insertions: nodes stand at a provision, or a text stands in its content.
use Rattle.std.specs.Prelude.{Bool, ◌||◌, not, [], ◌∷◌, is_some, Ok}
use Rattle.serde_json.specs.Data.{Data}
use Rattle.serde_json.specs.Find.{get}
use Rattle.textual_mods.specs.declared.edit.Pos.{Pos}
use Rattle.textual_mods.specs.declared.edit.Pos.TheVariants as pos
use Rattle.textual_mods.specs.declared.edit.TextPos.{TextPos}
use Rattle.textual_mods.specs.declared.edit.TextPos.TheVariants as at
use Rattle.textual_mods.specs.declared.edit.TextualMod.{TextualMod}
use Rattle.textual_mods.specs.declared.edit.TextualMod.TheVariants.{InsertNodes, InsertText}
use Rattle.akn_json.specs.declared.fault.FormRule.TheVariants.{WrongShape}
use Rattle.akn_json.specs.declared.reading.key.Key.TheVariants as key
use Rattle.akn_json.specs.Reading.Keys.{key_name}
use Rattle.akn_json.specs.Reading.Reads.{Read, ◌>>=◌, ◌>>◌, broken, unless_broken}
use Rattle.akn_json.specs.Reading.Fields.{has_members, members_in, field_in, text_in}
use Rattle.akn_json.specs.Reading.Nodes.{nodes_in}
use Rattle.akn_json.specs.Reading.Modifications.Targets.{anchor_in, spot_in}

-- the insertion of nodes
unfoldable pub insert_nodes_in : Data → Read TextualMod
insert_nodes_in d = do
  anchor ← anchor_in d
  n ← field_in key.New d
  new ← nodes_in n
  Ok (InsertNodes anchor.wid anchor.pos new)

-- no text is named beside which something is inserted
unfoldable pub no_spot_in : Data → Read Unit
no_spot_in d = unless_broken (broken WrongShape) (not (is_some (get (key_name key.Old) d)))

-- where a text is inserted: beside one occurrence of a text, or at the start or the end, and then no text is named
unfoldable pub text_pos_in : Pos → Data → Read TextPos
text_pos_in pos.Before d = do
  spot ← spot_in d
  Ok (at.Before spot)
text_pos_in pos.After d = do
  spot ← spot_in d
  Ok (at.After spot)
text_pos_in pos.Start d = do
  no_spot_in d
  Ok at.Start
text_pos_in pos.End d = do
  no_spot_in d
  Ok at.End

-- the insertion of a text in the content of a provision
unfoldable pub insert_text_in : Data → Read TextualMod
insert_text_in d = do
  anchor ← anchor_in d
  n ← field_in key.New d
  new ← text_in n
  at ← text_pos_in anchor.pos d
  Ok (InsertText anchor.wid at new)
