-- The names in forms: the IRIs of works and of expressions, the ids of modifications, and the work that modifies.
use Rattle.std.specs.Prelude.{ℕ, List, Option, Some, None, Ok, Err}
use Rattle.serde_json.specs.Data.{Data}
use Rattle.desk_base.specs.Ids.{id_of}
use Rattle.desk_base.specs.declared.id.Id.{Id}
use Rattle.frbr_names.specs.Expressions.{is_expression}
use Rattle.frbr_names.specs.Reads.{Read as NameRead}
use Rattle.frbr_names.specs.Rules.{is_portion}
use Rattle.frbr_names.specs.Works.{Work, work_of}
use Rattle.law_register.specs.declared.law.modification.ModSource.{ModSource}
use Rattle.akn_json.specs.declared.fault.FormRule.TheVariants.{BadName}
use Rattle.akn_json.specs.declared.reading.key.Key.TheVariants as key
use Rattle.akn_json.specs.declared.reading.tables.TheConstants.{SOURCE}
use Rattle.akn_json.specs.Reading.Reads.{Read, ◌>>=◌, ◌>>◌, broken, or_fault, unless_broken}
use Rattle.akn_json.specs.Reading.Fields.{members_in, field_in, optional_in, text_in, number_in}

-- the text of the IRI of a work, if it was read as one
abbrev pub work_read : NameRead Work → Read (List ℕ)
work_read (Ok work) = Ok work.text
work_read (Err fault) = Err (broken BadName)

-- the IRI of a work
unfoldable pub work_in : Data → Read (List ℕ)
work_in d = do
  text ← text_in d
  work_read (work_of text)

-- the IRI of an expression, as it is spelled there
unfoldable pub expression_in : Data → Read (List ℕ)
expression_in d = do
  text ← text_in d
  unless_broken (broken BadName) (is_expression text)
  Ok text

-- the id of a modification, as a text
unfoldable pub id_in : Data → Read Id
id_in d = do
  text ← text_in d
  or_fault (broken BadName) (id_of text)

-- the provision that modifies, by its wId, which is a portion
unfoldable pub provision_in : Data → Read (Option (List ℕ))
provision_in d = do
  wid ← text_in d
  unless_broken (broken BadName) (is_portion wid)
  Ok (Some wid)

-- the source of a modification: the IRI of the work that modifies, a place within it, and the provision of it, where one is named
unfoldable pub source_in : Data → Read ModSource
source_in d = do
  members_in SOURCE d
  h ← field_in key.Href d
  href ← work_in h
  p ← field_in key.Place d
  place ← number_in 65535 p
  provision ← optional_in key.Provision None provision_in d
  Ok (record { href = href; place = place; provision = provision })
