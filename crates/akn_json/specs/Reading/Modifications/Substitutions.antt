-- The forms of repeals and of substitutions: a provision goes, or nodes or a text stand in the place of what was there.
use Rattle.std.specs.Prelude.{[], ◌∷◌, Ok}
use Rattle.serde_json.specs.Data.{Data}
use Rattle.textual_mods.specs.declared.edit.TextualMod.{TextualMod}
use Rattle.textual_mods.specs.declared.edit.TextualMod.TheVariants.{Repeal, SubstituteNodes, SubstituteText}
use Rattle.akn_json.specs.declared.reading.key.Key.TheVariants as key
use Rattle.akn_json.specs.Reading.Reads.{Read, ◌>>=◌}
use Rattle.akn_json.specs.Reading.Fields.{members_in, field_in, text_in}
use Rattle.akn_json.specs.Reading.Nodes.{nodes_in}
use Rattle.akn_json.specs.Reading.Modifications.Targets.{destination_in, spot_in}

-- the repeal of a provision
unfoldable pub repeal_in : Data → Read TextualMod
repeal_in d = do
  wid ← destination_in d
  Ok (Repeal wid)

-- the substitution of a provision by nodes
unfoldable pub substitute_nodes_in : Data → Read TextualMod
substitute_nodes_in d = do
  wid ← destination_in d
  n ← field_in key.New d
  new ← nodes_in n
  Ok (SubstituteNodes wid new)

-- the substitution of one occurrence of a text in the content of a provision
unfoldable pub substitute_text_in : Data → Read TextualMod
substitute_text_in d = do
  wid ← destination_in d
  spot ← spot_in d
  n ← field_in key.New d
  new ← text_in n
  Ok (SubstituteText wid spot new)
