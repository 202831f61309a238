-- The bounds of what a modification names and brings, and of the period that it states.
use Rattle.std.specs.Prelude.{Bool, true, Option, None}
use Rattle.desk_base.specs.Periods.{ends_after_its_start}
use Rattle.act_tree.specs.Limits.{is_wid}
use Rattle.act_tree.specs.declared.build_fault.BuildFault.{BuildFault}
use Rattle.bearing_mods.specs.Efficacy.{days_end_after_their_start}
use Rattle.textual_mods.specs.EditLimits.{edit_fits, payload_fault}
use Rattle.law_register.specs.declared.law.modification.Destination.{Destination}
use Rattle.law_register.specs.declared.law.modification.Destination.TheVariants as to
use Rattle.law_register.specs.declared.law.modification.Modification.{Modification}
use Rattle.law_register.specs.declared.law.modification.Modification.TheVariants.{Textual, Force, Efficacy}

-- the name of what a modification of force or efficacy is directed at keeps its limits
abbrev pub destination_fits : Destination → Bool
destination_fits (to.Modification id) = true
destination_fits (to.Node wid) = is_wid wid

-- what a modification names and brings keeps its limits
abbrev pub modification_fits : Modification → Bool
modification_fits (Textual source force edit) = edit_fits edit
modification_fits (Force source destination on effect) = destination_fits destination
modification_fits (Efficacy source destination on effect) = destination_fits destination

-- the period that a modification states ends after its start
abbrev pub times_fit : Modification → Bool
times_fit (Textual source force edit) = ends_after_its_start force
times_fit (Force source destination on effect) = true
times_fit (Efficacy source destination on effect) = days_end_after_their_start effect

-- the first fault of the nodes that a modification brings
abbrev pub brought_fault : Modification → Option BuildFault
brought_fault (Textual source force edit) = payload_fault edit
brought_fault (Force source destination on effect) = None
brought_fault (Efficacy source destination on effect) = None
