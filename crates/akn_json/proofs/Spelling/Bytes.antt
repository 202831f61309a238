-- A dossier that is read is well spelled, and so is a command.
use Rattle.std.proofs.Common.{◌≡◌, Bool, true, Result}
use Rattle.std.specs.Prelude.{IfOk}
use Rattle.serde_json.specs.Data.{Data}
use Rattle.law_register.specs.Law.Spelling.{is_spelled_modification, are_spelled_modifications, is_spelled_act, is_well_spelled}
use Rattle.akn_json.specs.declared.asked.Asked.{Asked}
use Rattle.akn_json.specs.declared.dossier.Dossier.{Dossier}
use Rattle.akn_json.specs.declared.fault.ReadFail.{ReadFail}
use Rattle.akn_json.specs.declared.reading.command_kinds.CommandKind.{CommandKind}
use Rattle.akn_json.specs.declared.reading.command_kinds.CommandKind.TheVariants as kind
use Rattle.akn_json.specs.Reading.Reads.{Gives}
use Rattle.akn_json.specs.Reading.Dossiers.{dossier_in}
use Rattle.akn_json.specs.Reading.Commands.{body_in, enact_in, record_in, correct_in, withdraw_in, restore_in, draft_add_in, draft_drop_in, file_in, command_in, asked_in}
use Rattle.akn_json.proofs.Spelling.Acts.{act_passes}
use Rattle.akn_json.proofs.Spelling.Modifications.{modification_passes, mods_pass}
use Rattle.akn_json.proofs.Spelling.Passing.{Passes, passes, passes_on, passes_from, passes_then, passes_inside, passes_given}

body_passes : (d : Data) → Passes is_spelled_modification (body_in d)
unfolding body_in
body_passes d = search (passes_on, passes_inside, modification_passes)

command_passes : (k : CommandKind) (d : Data) → Passes is_well_spelled (command_in k d)
unfolding enact_in record_in correct_in withdraw_in restore_in draft_add_in draft_drop_in file_in is_well_spelled
command_passes kind.Enact d = search (passes_from is_spelled_act is_well_spelled, passes_on, act_passes, passes is_well_spelled)
command_passes kind.Record d = search (passes_from are_spelled_modifications is_well_spelled, passes_on, mods_pass, passes is_well_spelled)
command_passes kind.Correct d = search (passes_from is_spelled_modification is_well_spelled, passes_on, body_passes, passes is_well_spelled)
command_passes kind.Withdraw d = search (passes_on, passes is_well_spelled)
command_passes kind.Restore d = search (passes_on, passes is_well_spelled)
command_passes kind.DraftAdd d = search (passes_from is_spelled_modification is_well_spelled, passes_on, body_passes, passes is_well_spelled)
command_passes kind.DraftDrop d = search (passes_on, passes is_well_spelled)
command_passes kind.File d = search (passes_on, passes is_well_spelled)

asks_well : Asked → Bool
asks_well asked = is_well_spelled asked.command

asked_passes : (d : Data) → Passes asks_well (asked_in d)
unfolding asked_in asks_well
asked_passes d = search (passes_then, passes_from is_well_spelled asks_well, passes_on, command_passes, passes asks_well) depth 24

-- what a call gives that gives the command of a JSON value
pub command_spelled : (result : Result Asked ReadFail) (d : Data) → Gives (λ a. a) result (asked_in d) → IfOk result (λ a. is_well_spelled a.command ≡ true)
unfolding asks_well
command_spelled result d same = passes_given asks_well result (asked_in d) (asked_passes d) same

has_spelled_act : Dossier → Bool
has_spelled_act dossier = is_spelled_act dossier.act

has_spelled_mods : Dossier → Bool
has_spelled_mods dossier = are_spelled_modifications dossier.mods

act_of_passes : (d : Data) → Passes has_spelled_act (dossier_in d)
unfolding dossier_in has_spelled_act
act_of_passes d = search (passes_then, passes_from is_spelled_act has_spelled_act, passes_on, act_passes, passes has_spelled_act) depth 24

mods_of_pass : (d : Data) → Passes has_spelled_mods (dossier_in d)
unfolding dossier_in has_spelled_mods
mods_of_pass d = search (passes_then, passes_from are_spelled_modifications has_spelled_mods, passes_on, mods_pass, passes has_spelled_mods) depth 24

-- what a call gives that gives the dossier of a JSON value
pub act_spelled : (result : Result Dossier ReadFail) (d : Data) → Gives (λ a. a) result (dossier_in d) → IfOk result (λ a. is_spelled_act a.act ≡ true)
unfolding has_spelled_act
act_spelled result d same = passes_given has_spelled_act result (dossier_in d) (act_of_passes d) same

pub mods_spelled : (result : Result Dossier ReadFail) (d : Data) → Gives (λ a. a) result (dossier_in d)
    → IfOk result (λ a. are_spelled_modifications a.mods ≡ true)
unfolding has_spelled_mods
mods_spelled result d same = passes_given has_spelled_mods result (dossier_in d) (mods_of_pass d) same

pub ruleset spelled = (command_spelled, act_spelled, mods_spelled)
