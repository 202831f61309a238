-- The forms of splits and of joins: one provision becomes two, or two become one.
use Rattle.std.specs.Prelude.{Bool, ◌||◌, [], ◌∷◌, Option, Some, None, Ok}
use Rattle.serde_json.specs.Data.{Data}
use Rattle.serde_json.specs.Find.{get}
use Rattle.textual_mods.specs.declared.edit.SplitAt.{SplitAt}
use Rattle.textual_mods.specs.declared.edit.SplitAt.TheVariants as at
use Rattle.textual_mods.specs.declared.edit.TextualMod.{TextualMod}
use Rattle.textual_mods.specs.declared.edit.TextualMod.TheVariants.{Split, Join}
use Rattle.akn_json.specs.declared.fault.FormRule.TheVariants.{WrongShape}
use Rattle.akn_json.specs.declared.reading.key.Key.TheVariants as key
use Rattle.akn_json.specs.Reading.Keys.{key_name}
use Rattle.akn_json.specs.Reading.Reads.{Read, ◌>>=◌, broken, unless_broken}
use Rattle.akn_json.specs.Reading.Fields.{has_members, members_in, field_in, optional_in, text_in}
use Rattle.akn_json.specs.Reading.Nodes.{num_in}
use Rattle.akn_json.specs.Reading.Modifications.Targets.{destination_in, spot_in}

-- at the child that is named, and else at one occurrence of a text
abbrev pub split_at_or : Option Data → Data → Read SplitAt
split_at_or None d = do
  spot ← spot_in d
  Ok (at.Text spot)
split_at_or (Some c) d = do
  child ← text_in c
  Ok (at.Child child)

-- where a provision is split
unfoldable pub split_at_in : Data → Read SplitAt
split_at_in d = split_at_or (get (key_name key.Child) d) d

-- the split of a provision
unfoldable pub split_in : Data → Read TextualMod
split_in d = do
  wid ← destination_in d
  at ← split_at_in d
  n ← field_in key.Num d
  num ← num_in n
  heading ← optional_in key.Heading [] text_in d
  Ok (Split wid at num heading)

-- the join of two provisions
unfoldable pub join_in : Data → Read TextualMod
join_in d = do
  wid ← destination_in d
  s ← field_in key.Second d
  second ← text_in s
  separator ← optional_in key.Separator [] text_in d
  Ok (Join wid second separator)
