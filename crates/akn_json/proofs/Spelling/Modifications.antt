-- A modification that is read is well spelled.
use Rattle.std.proofs.Common.{◌≡◌, ℕ, ◌+◌, true, List, ◌∷◌, Option, Some, None, Ok, Err, refl}
use Rattle.std.proofs.lemmas.Bool.{and_from, eq-eqb}
use Rattle.serde_json.specs.Data.{Data, Items, no_items, item}
use Rattle.serde_json.specs.Find.{get}
use Rattle.desk_base.specs.declared.period.Period.{Period}
use Rattle.frbr_names.specs.Rules.{is_portion}
use Rattle.textual_mods.specs.declared.edit.TextualMod.{TextualMod}
use Rattle.bearing_mods.specs.declared.efficacy.EfficacyEffect.TheVariants as made
use Rattle.law_register.specs.declared.law.modification.ModSource.{ModSource}
use Rattle.law_register.specs.declared.law.modification.Destination.{Destination}
use Rattle.law_register.specs.declared.law.modification.Modification.{Modification}
use Rattle.law_register.specs.declared.law.modification.Modification.TheVariants.{Textual, Efficacy}
use Rattle.law_register.specs.Law.Spelling.{is_spelled_payload, is_spelled_edit, is_spelled_provision, is_spelled_source, is_spelled_effect, is_spelled_modification, are_spelled_modifications}
use Rattle.akn_json.specs.declared.reading.modifications.bearing_kinds.EfficacyKind.{EfficacyKind}
use Rattle.akn_json.specs.declared.reading.modifications.bearing_kinds.EfficacyKind.TheVariants as kind
use Rattle.akn_json.specs.declared.reading.modifications.edits.EditForm.{EditForm}
use Rattle.akn_json.specs.declared.reading.modifications.edits.EditForm.TheVariants as form
use Rattle.akn_json.specs.declared.reading.key.Key.TheVariants as key
use Rattle.akn_json.specs.Reading.Keys.{key_name}
use Rattle.akn_json.specs.Reading.Reads.{Read, ◌>>=◌, inside}
use Rattle.akn_json.specs.Reading.Fields.{optional_in, text_in}
use Rattle.akn_json.specs.Reading.Names.{provision_in, source_in}
use Rattle.akn_json.specs.Reading.Modifications.Substitutions.{repeal_in, substitute_nodes_in, substitute_text_in}
use Rattle.akn_json.specs.Reading.Modifications.Insertions.{insert_nodes_in, insert_text_in}
use Rattle.akn_json.specs.Reading.Modifications.Renumberings.{renumber_in}
use Rattle.akn_json.specs.Reading.Modifications.Splits.{split_in, join_in}
use Rattle.akn_json.specs.Reading.Modifications.Edits.{edit_in}
use Rattle.akn_json.specs.Reading.Modifications.Bearings.{force_in, date_in, dated_in, inapplied_in, efficacy_on_in, efficacy_effect_in, efficacy_in}
use Rattle.akn_json.specs.Reading.Modifications.{textual_in, force_or, bearing_in, textual_or, modification_in, each_from, mods_in}
use Rattle.akn_json.proofs.Spelling.Nodes.{nodes_pass}
use Rattle.akn_json.proofs.Spelling.Passing.{Passes, passes, passes_kept, passes_on, passes_from, passes_then, passes_or, passes_inside}

-- the provision that a source names
provision_passes : (d : Data) → Passes is_spelled_provision (provision_in d)
unfolding provision_in
provision_passes d =
    passes_on is_spelled_provision (text_in d) _
    (λ wid _. passes_kept is_spelled_provision _ (is_portion wid) _ (λ is. passes is_spelled_provision (Some wid) is))

provision_or_none : (d : Data) → Passes is_spelled_provision (optional_in key.Provision None provision_in d)
unfolding optional_in
provision_or_none d = passes_or is_spelled_provision None provision_in (get (key_name key.Provision) d) refl provision_passes

source_passes : (d : Data) → Passes is_spelled_source (source_in d)
unfolding source_in
source_passes d =
    search (passes_then, passes_from is_spelled_provision is_spelled_source, passes_on, provision_or_none, passes is_spelled_source) depth 24

edit_passes : (f : EditForm) (d : Data) → Passes is_spelled_edit (edit_in f d)
unfolding repeal_in substitute_nodes_in substitute_text_in insert_nodes_in insert_text_in renumber_in split_in join_in
edit_passes form.Repeal d = search (passes_on, passes is_spelled_edit) depth 24
edit_passes form.SubstituteNodes d = search (passes_from is_spelled_payload is_spelled_edit, passes_on, nodes_pass, passes is_spelled_edit) depth 24
edit_passes form.SubstituteText d = search (passes_on, passes is_spelled_edit) depth 24
edit_passes form.InsertNodes d = search (passes_from is_spelled_payload is_spelled_edit, passes_on, nodes_pass, passes is_spelled_edit) depth 24
edit_passes form.InsertText d = search (passes_on, passes is_spelled_edit) depth 24
edit_passes form.Renumber d = search (passes_on, passes is_spelled_edit) depth 24
edit_passes form.Split d = search (passes_on, passes is_spelled_edit) depth 24
edit_passes form.Join d = search (passes_on, passes is_spelled_edit) depth 24

textual_passes : (d : Data) → Passes is_spelled_modification (textual_in d)
unfolding textual_in
textual_passes d =
    search (passes_then, passes_from is_spelled_source is_spelled_modification, passes_from is_spelled_edit is_spelled_modification, passes_on, source_passes, edit_passes, done) depth 40
  where
    done : (source : ModSource) (force : Period) (edit : TextualMod) → is_spelled_source source ≡ true → is_spelled_edit edit ≡ true
        → Passes is_spelled_modification (Ok (Textual source force edit))
    done source force edit from well =
        passes is_spelled_modification (Textual source force edit) (and_from (is_spelled_source source) (is_spelled_edit edit) from well)

force_passes : (d : Data) → Passes is_spelled_modification (force_in d)
unfolding force_in
force_passes d =
    search (passes_then, passes_from is_spelled_source is_spelled_modification, passes_on, source_passes, passes is_spelled_modification) depth 40

-- what an efficacy modification does goes with the day from which it is counted
effect_passes : (k : EfficacyKind) (d : Data) (on : ℕ) → efficacy_on_in k d ≡ Ok on → Passes (is_spelled_effect on) (efficacy_effect_in k d)
unfolding dated_in inapplied_in
effect_passes kind.Entry d on is = search (passes_on, passes (is_spelled_effect on)) depth 24
effect_passes kind.End d on is = search (passes_on, passes (is_spelled_effect on)) depth 24
effect_passes kind.Retroactivity d on is =
    passes_on (is_spelled_effect on) (date_in d) _ (λ date read. passes (is_spelled_effect on) (made.Retroactive date) (eq-eqb on date cc))
effect_passes kind.Postponement d on is = search (passes_on, passes (is_spelled_effect on)) depth 24
effect_passes kind.Prorogation d on is = search (passes_on, passes (is_spelled_effect on)) depth 24
effect_passes kind.ExtraEfficacy d on is = passes (is_spelled_effect on) made.Extra refl
effect_passes kind.Inapplication d on is = search (passes_on, passes (is_spelled_effect on)) depth 24

efficacy_passes : (d : Data) → Passes is_spelled_modification (efficacy_in d)
unfolding efficacy_in
efficacy_passes d =
    search (passes_then, passes_from is_spelled_source is_spelled_modification, passes_on, source_passes, effect_on) depth 40
  where
    effect_on : (k : EfficacyKind) (d : Data) (source : ModSource) (destination : Destination) → is_spelled_source source ≡ true
        → Passes is_spelled_modification (efficacy_on_in k d >>= λ on. efficacy_effect_in k d >>= λ effect. Ok (Efficacy source destination on effect))
    effect_on k d source destination from =
        passes_on is_spelled_modification (efficacy_on_in k d) _
        (λ on is. passes_from (is_spelled_effect on) is_spelled_modification (efficacy_effect_in k d) _ (effect_passes k d on is)
        (λ effect so. passes is_spelled_modification (Efficacy source destination on effect)
        (and_from (is_spelled_source source) (is_spelled_effect on effect) from so)))

force_or_passes : (found : Option Data) (d : Data) → Passes is_spelled_modification (force_or found d)
force_or_passes (Some f) d = force_passes f
force_or_passes None d = search (passes_on, efficacy_passes)

textual_or_passes : (found : Option Data) (d : Data) → Passes is_spelled_modification (textual_or found d)
unfolding bearing_in
textual_or_passes (Some t) d = textual_passes t
textual_or_passes None d = force_or_passes (get (key_name key.ForceMod) d) d

pub modification_passes : (d : Data) → Passes is_spelled_modification (modification_in d)
unfolding modification_in
modification_passes d = search (passes_then, textual_or_passes)

-- modifications are made of the first and of the others
mods_of : (one : Read Modification) (rest : Read (List Modification)) → Passes is_spelled_modification one → Passes are_spelled_modifications rest
    → Passes are_spelled_modifications (one >>= λ m. rest >>= λ ms. Ok (m ∷ ms))
unfolding Passes are_spelled_modifications
mods_of (Ok m) (Ok ms) this others = rw (this, others) refl
mods_of (Ok m) (Err fault) this others = tt
mods_of (Err fault) rest this others = tt

each_passes : (place : ℕ) (ds : Items) → Passes are_spelled_modifications (each_from place ds)
unfolding Passes are_spelled_modifications
each_passes place no_items = refl
each_passes place (item d ds) =
    mods_of (inside place (modification_in d)) (each_from (place + 1) ds) (passes_inside is_spelled_modification place (modification_in d) (modification_passes d)) (each_passes (place + 1) ds)

pub mods_pass : (d : Data) → Passes are_spelled_modifications (mods_in d)
unfolding mods_in
mods_pass d = search (passes_on, each_passes)
