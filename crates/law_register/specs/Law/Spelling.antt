-- What is well spelled: each ref is the IRI of an expression, each provision that a source names is a portion, the language of an
-- act is one, its day agrees with the IRI of its work, and a retroactivity is counted from its date.
use Rattle.std.specs.Prelude.{ℕ, ◌==◌, Bool, true, false, ◌&&◌, List, Option, Some, None}
use Rattle.std.specs.List.{list_all}
use Rattle.frbr_names.specs.Dates.{agrees_with}
use Rattle.frbr_names.specs.Expressions.{is_expression, is_language}
use Rattle.frbr_names.specs.Rules.{is_portion}
use Rattle.frbr_names.specs.Works.{date_named}
use Rattle.frbr_names.specs.declared.date.IriDate.{IriDate}
use Rattle.act_tree.specs.Branches.{Branch, Branches, branch, no_branches, more_branches, branches_of}
use Rattle.act_tree.specs.Provisions.{Own}
use Rattle.bearing_mods.specs.declared.efficacy.EfficacyEffect.{EfficacyEffect}
use Rattle.bearing_mods.specs.declared.efficacy.EfficacyEffect.TheVariants.{Retroactive}
use Rattle.textual_mods.specs.declared.edit.TextualMod.{TextualMod}
use Rattle.textual_mods.specs.declared.edit.TextualMod.TheVariants.{SubstituteNodes, InsertNodes}
use Rattle.law_register.specs.declared.law.act.Act.{Act}
use Rattle.law_register.specs.declared.law.command.Command.{Command}
use Rattle.law_register.specs.declared.law.command.Command.TheVariants.{Enact, Record, Correct, Withdraw, Restore, DraftAdd, DraftDrop, File}
use Rattle.law_register.specs.declared.law.modification.ModSource.{ModSource}
use Rattle.law_register.specs.declared.law.modification.Modification.{Modification}
use Rattle.law_register.specs.declared.law.modification.Modification.TheVariants.{Textual, Force, Efficacy}

-- a node, and likewise nodes side by side: at every depth each ref is the IRI of an expression
abbrev mutual
  pub is_spelled_node : Branch Own → Bool
  is_spelled_node (branch own below) = list_all is_expression own.refs && are_spelled_nodes below

  pub are_spelled_nodes : Branches Own → Bool
  are_spelled_nodes no_branches = true
  are_spelled_nodes (more_branches b bs) = is_spelled_node b && are_spelled_nodes bs

-- the nodes that an act or an edit brings
abbrev pub is_spelled_payload : List (Branch Own) → Bool
is_spelled_payload nodes = are_spelled_nodes (branches_of nodes)

-- what an edit brings
abbrev pub is_spelled_edit : TextualMod → Bool
is_spelled_edit (SubstituteNodes wid new) = is_spelled_payload new
is_spelled_edit (InsertNodes wid pos new) = is_spelled_payload new
is_spelled_edit _ = true

-- the provision that a source names, where it names one, is a portion
abbrev pub is_spelled_provision : Option (List ℕ) → Bool
is_spelled_provision None = true
is_spelled_provision (Some provision) = is_portion provision

-- where a modification comes from
abbrev pub is_spelled_source : ModSource → Bool
is_spelled_source source = is_spelled_provision source.provision

-- a retroactivity is counted from its date; any other effect from any day
abbrev pub is_spelled_effect : ℕ → EfficacyEffect → Bool
is_spelled_effect on (Retroactive date) = on == date
is_spelled_effect on _ = true

-- a modification
abbrev pub is_spelled_modification : Modification → Bool
is_spelled_modification (Textual source force edit) = is_spelled_source source && is_spelled_edit edit
is_spelled_modification (Force source destination on effect) = is_spelled_source source
is_spelled_modification (Efficacy source destination on effect) = is_spelled_source source && is_spelled_effect on effect

-- modifications side by side
unfoldable pub are_spelled_modifications : List Modification → Bool
are_spelled_modifications mods = list_all is_spelled_modification mods

-- a day agrees with the date in the IRI of a work
abbrev pub is_spelled_day : Option IriDate → ℕ → Bool
is_spelled_day None day = false
is_spelled_day (Some date) day = agrees_with date day

-- an act
unfoldable pub is_spelled_act : Act → Bool
is_spelled_act act =
    is_language act.language && is_spelled_day (date_named act.work) act.day && is_spelled_payload act.body

-- a command
unfoldable pub is_well_spelled : Command → Bool
is_well_spelled (Enact act) = is_spelled_act act
is_well_spelled (Record work mods) = are_spelled_modifications mods
is_well_spelled (Correct id body) = is_spelled_modification body
is_well_spelled (Withdraw id) = true
is_well_spelled (Restore id) = true
is_well_spelled (DraftAdd work body) = is_spelled_modification body
is_well_spelled (DraftDrop item) = true
is_well_spelled (File work seen) = true
