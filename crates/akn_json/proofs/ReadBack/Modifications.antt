-- A modification, as it is printed, is read as that modification.
use Rattle.std.proofs.Common.{◌≡◌, true, Ok, Some, refl}
use Rattle.std.specs.Prelude.{codes}
use Rattle.std.proofs.lemmas.Bool.{and_parts}
use Rattle.serde_json.specs.Data.{Data}
use Rattle.serde_json.specs.Find.{get}
use Rattle.law_register.specs.Law.Spelling.{is_spelled_source, is_spelled_edit, is_spelled_effect, is_spelled_modification}
use Rattle.law_register.specs.declared.law.modification.Modification.{Modification}
use Rattle.law_register.specs.declared.law.modification.Modification.TheVariants.{Textual, Force, Efficacy}
use Rattle.akn_json.specs.Printing.Drafts.{modification_data}
use Rattle.akn_json.specs.Printing.Typed.{IsTypedModification}
use Rattle.akn_json.specs.Reading.Commands.{body_in}
use Rattle.akn_json.specs.Reading.Fields.{has_members, members_in, field_in}
use Rattle.akn_json.specs.Reading.Modifications.{single_in, bearing_in, modification_in}
use Rattle.akn_json.proofs.ReadBack.Edits.{textual_back}
use Rattle.akn_json.proofs.ReadBack.Bearings.{force_back, efficacy_back}

pub modification_back : (m : Modification) → IsTypedModification m → is_spelled_modification m ≡ true
    → modification_in (modification_data m) ≡ Ok m
unfolding modification_data modification_in members_in has_members field_in single_in bearing_in
modification_back (Textual source force edit) typed well =
    let parts = and_parts (is_spelled_source source) (is_spelled_edit edit) well in
    textual_back source force edit typed.0 parts.0 typed.1 typed.2 parts.1
modification_back (Force source to on effect) typed well = force_back source to on effect typed.0 well typed.1 typed.2 typed.3
modification_back (Efficacy source to on effect) typed well =
    let parts = and_parts (is_spelled_source source) (is_spelled_effect on effect) well in
    efficacy_back source to on effect typed.0 parts.0 typed.1 typed.2 typed.3 parts.1

-- a command that has it at its key is read as bringing it
pub command_back : (m : Modification) → IsTypedModification m → is_spelled_modification m ≡ true → (d : Data)
    → get (codes "modification") d ≡ Some (modification_data m) → body_in d ≡ Ok m
unfolding body_in field_in
command_back m typed well d at = rw (at, modification_back m typed well) refl
