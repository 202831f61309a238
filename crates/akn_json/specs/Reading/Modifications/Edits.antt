-- The edit of a textual modification: its set of keys, and then its values, by the form that was chosen for it.
use Rattle.serde_json.specs.Data.{Data}
use Rattle.textual_mods.specs.declared.edit.TextualMod.{TextualMod}
use Rattle.akn_json.specs.declared.reading.modifications.edits.EditForm.{EditForm}
use Rattle.akn_json.specs.declared.reading.modifications.edits.EditForm.TheVariants as form
use Rattle.akn_json.specs.declared.reading.tables.TheConstants.{REPEAL, SUBSTITUTION_OF_NODES, SUBSTITUTION_OF_TEXT, INSERTION_OF_NODES, INSERTION_AT_AN_END, INSERTION_BESIDE_A_TEXT, RENUMBERING, SPLIT_AT_A_CHILD, SPLIT_AT_A_TEXT, JOIN}
use Rattle.akn_json.specs.Reading.Reads.{Read}
use Rattle.akn_json.specs.Reading.Fields.{members_in, either_in}
use Rattle.akn_json.specs.Reading.Modifications.Substitutions.{repeal_in, substitute_nodes_in, substitute_text_in}
use Rattle.akn_json.specs.Reading.Modifications.Insertions.{insert_nodes_in, insert_text_in}
use Rattle.akn_json.specs.Reading.Modifications.Renumberings.{renumber_in}
use Rattle.akn_json.specs.Reading.Modifications.Splits.{split_in, join_in}

-- the members of a form: an insertion of text and a split have those of one of two tables
abbrev pub keys_in : EditForm → Data → Read Unit
keys_in form.Repeal d = members_in REPEAL d
keys_in form.SubstituteNodes d = members_in SUBSTITUTION_OF_NODES d
keys_in form.SubstituteText d = members_in SUBSTITUTION_OF_TEXT d
keys_in form.InsertNodes d = members_in INSERTION_OF_NODES d
keys_in form.InsertText d = either_in INSERTION_AT_AN_END INSERTION_BESIDE_A_TEXT d
keys_in form.Renumber d = members_in RENUMBERING d
keys_in form.Split d = either_in SPLIT_AT_A_CHILD SPLIT_AT_A_TEXT d
keys_in form.Join d = members_in JOIN d

-- the edit that the values of a form say
abbrev pub edit_in : EditForm → Data → Read TextualMod
edit_in form.Repeal d = repeal_in d
edit_in form.SubstituteNodes d = substitute_nodes_in d
edit_in form.SubstituteText d = substitute_text_in d
edit_in form.InsertNodes d = insert_nodes_in d
edit_in form.InsertText d = insert_text_in d
edit_in form.Renumber d = renumber_in d
edit_in form.Split d = split_in d
edit_in form.Join d = join_in d
