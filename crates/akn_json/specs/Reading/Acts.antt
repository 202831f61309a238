-- The form of an act: its work, its day, its language, its numbering, how many nodes it may have, its force, and the nodes of its body.
use Rattle.std.specs.Prelude.{ℕ, ◌==◌, List, Option, Some, None, Ok, if◌then◌else◌}
use Rattle.serde_json.specs.Data.{Data}
use Rattle.act_tree.specs.NodeLimits.{most_nodes}
use Rattle.act_tree.specs.declared.limits.NodeLimit.{NodeLimit}
use Rattle.act_tree.specs.declared.limits.NodeLimit.TheVariants.{Plain, Wide}
use Rattle.eid_paths.specs.declared.numbering.Numbering.{Numbering}
use Rattle.eid_paths.specs.declared.numbering.TheConstants.Numbering.{DEFAULT}
use Rattle.eid_paths.specs.Numberings.{numbering_of}
use Rattle.frbr_names.specs.Dates.{agrees_with}
use Rattle.frbr_names.specs.Expressions.{is_language}
use Rattle.frbr_names.specs.Works.{date_named}
use Rattle.law_register.specs.declared.law.act.Act.{Act}
use Rattle.akn_json.specs.declared.fault.FormRule.TheVariants.{BadName, BadNumber, DateDiffers}
use Rattle.akn_json.specs.declared.reading.key.Key.TheVariants as key
use Rattle.akn_json.specs.declared.reading.tables.TheConstants.{ACT}
use Rattle.akn_json.specs.Reading.Reads.{Read, ◌>>=◌, ◌>>◌, broken, or_fault, unless_broken}
use Rattle.akn_json.specs.Reading.Fields.{members_in, field_in, optional_in, items_in, each, text_in, number_in, day_in, period_in}
use Rattle.akn_json.specs.Reading.Names.{work_in}
use Rattle.akn_json.specs.Reading.Nodes.{element_in, nodes_in}

-- the day of an act, which agrees with the date in the IRI of its work
unfoldable pub act_day_in : List ℕ → Data → Read ℕ
act_day_in work d = do
  day ← day_in d
  date ← or_fault (broken BadName) (date_named work)
  unless_broken (broken DateDiffers) (agrees_with date day)
  Ok day

-- the language of an act: three lower-case letters
unfoldable pub language_in : Data → Read (List ℕ)
language_in d = do
  text ← text_in d
  unless_broken (broken BadName) (is_language text)
  Ok text

-- the numbering of an act: the elements that it numbers throughout, in any order
unfoldable pub numbering_in : Data → Read Numbering
numbering_in d = do
  items ← items_in d
  elements ← each element_in items
  Ok (numbering_of elements)

-- the limit that allows this many nodes, if one does
abbrev pub limit_of : ℕ → Option NodeLimit
limit_of most =
    if most == most_nodes Plain then Some Plain
    else if most == most_nodes Wide then Some Wide
    else None

-- how many nodes an act may have: the number that a limit allows
unfoldable pub node_limit_in : Data → Read NodeLimit
node_limit_in d = do
  most ← number_in (most_nodes Wide) d
  or_fault (broken BadNumber) (limit_of most)

-- an act as it was enacted
unfoldable pub act_in : Data → Read Act
act_in d = do
  members_in ACT d
  u ← field_in key.FrbrUri d
  work ← work_in u
  t ← field_in key.FrbrDate d
  day ← act_day_in work t
  l ← field_in key.FrbrLanguage d
  language ← language_in l
  numbering ← optional_in key.Numbering DEFAULT numbering_in d
  limit ← optional_in key.NodeLimit Plain node_limit_in d
  f ← field_in key.Force d
  force ← period_in f
  b ← field_in key.Body d
  body ← nodes_in b
  Ok (record { work = work; language = language; day = day; numbering = numbering; limit = limit; force = force; body = body })
