-- The commands of a well-spelled dossier are well spelled.
use Rattle.std.proofs.Common.{◌≡◌, ap, ◌∙◌, true, ◌&&◌, List, [], ◌∷◌, map, ℕ, refl}
use Rattle.std.specs.List.{list_all}
use Rattle.law_register.specs.Law.Spelling.{are_spelled_modifications, is_spelled_act, is_spelled_modification, is_well_spelled}
use Rattle.law_register.specs.declared.law.modification.Modification.{Modification}
use Rattle.akn_json.specs.declared.dossier.Dossier.{Dossier}
use Rattle.dossier_text.specs.Entering.{record_of, commands_of}
use Rattle.law_register.proofs.Puts.{left_true, right_true, and_true}

records_are : (work : List ℕ) (mods : List Modification) → list_all is_spelled_modification mods ≡ true → list_all is_well_spelled (map (record_of work) mods) ≡ true
unfolding is_well_spelled are_spelled_modifications
records_are work [] h = refl
records_are work (m ∷ ms) h =
    and_true (is_spelled_modification m && true) (list_all is_well_spelled (map (record_of work) ms))
    (and_true (is_spelled_modification m) true (left_true (is_spelled_modification m) (list_all is_spelled_modification ms) h) refl)
    (records_are work ms (right_true (is_spelled_modification m) (list_all is_spelled_modification ms) h))

pub commands_are : (dossier : Dossier) → is_spelled_act dossier.act ≡ true → are_spelled_modifications dossier.mods ≡ true
    → list_all is_well_spelled (commands_of dossier) ≡ true
unfolding is_well_spelled are_spelled_modifications
commands_are dossier act mods =
    and_true (is_spelled_act dossier.act) (list_all is_well_spelled (map (record_of dossier.act.work) dossier.mods)) act (records_are dossier.act.work dossier.mods mods)
