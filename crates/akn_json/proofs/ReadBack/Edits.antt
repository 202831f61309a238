-- Textual modifications, as they are printed, are read as those modifications.
use Rattle.std.proofs.Common.{◌≡◌, ℕ, true, List, [], ◌∷◌, Ok, refl}
use Rattle.std.specs.Prelude.{All}
use Rattle.std.proofs.lemmas.List.Elements.{All-head, All-tail}
use Rattle.desk_base.specs.declared.period.Period.{Period}
use Rattle.law_register.specs.Law.Spelling.{is_spelled_source, is_spelled_edit}
use Rattle.law_register.specs.declared.law.modification.ModSource.{ModSource}
use Rattle.law_register.specs.declared.law.modification.Modification.TheVariants.{Textual}
use Rattle.textual_mods.specs.declared.edit.Pos.{Pos}
use Rattle.textual_mods.specs.declared.edit.Pos.TheVariants as pos
use Rattle.textual_mods.specs.declared.edit.SplitAt.TheVariants as cuts
use Rattle.textual_mods.specs.declared.edit.TextPos.TheVariants as stands
use Rattle.textual_mods.specs.declared.edit.TextualMod.{TextualMod}
use Rattle.textual_mods.specs.declared.edit.TextualMod.TheVariants.{Repeal, SubstituteNodes, SubstituteText, InsertNodes, InsertText, Renumber, Split, Join}
use Rattle.akn_json.specs.Printing.Edits.{anchor_data, pair_data, pairs_data, textual_data}
use Rattle.akn_json.specs.Printing.Typed.{IsTypedPair, IsTypedPeriod, IsTypedSource, IsTypedEdit}
use Rattle.akn_json.specs.Reading.Fields.{has_members, members_in, either_in, field_in, optional_in, items_in, each, text_in}
use Rattle.akn_json.specs.Reading.Modifications.{textual_in}
use Rattle.akn_json.specs.Reading.Modifications.EditKinds.{kind_in, payload_in, form_in}
use Rattle.akn_json.specs.Reading.Modifications.Insertions.{insert_nodes_in, no_spot_in, text_pos_in, insert_text_in}
use Rattle.akn_json.specs.Reading.Modifications.Renumberings.{pair_in, renumber_in}
use Rattle.akn_json.specs.Reading.Modifications.Splits.{split_at_in, split_in, join_in}
use Rattle.akn_json.specs.Reading.Modifications.Substitutions.{repeal_in, substitute_nodes_in, substitute_text_in}
use Rattle.akn_json.specs.Reading.Modifications.Targets.{wid_in, destination_in, pos_in, place_in, anchor_in, occurrence_in, spot_in}
use Rattle.akn_json.proofs.ReadBack.Leaves.{number_back, period_back, source_back}
use Rattle.akn_json.proofs.ReadBack.Nodes.{num_back, nodes_back}

place_back : (wid : List ℕ) (p : Pos) → place_in (anchor_data wid p) ≡ Ok (record { wid = wid; pos = p })
unfolding place_in members_in has_members field_in text_in pos_in
place_back wid pos.Before = refl
place_back wid pos.After = refl
place_back wid pos.Start = refl
place_back wid pos.End = refl

pair_back : (p : List ℕ × List ℕ) → IsTypedPair p → pair_in (pair_data p) ≡ Ok p
unfolding pair_in members_in has_members field_in text_in
pair_back p is = rw (num_back p.1 is.0) refl

pairs_back : (ps : List (List ℕ × List ℕ)) → All IsTypedPair ps → each pair_in (pairs_data ps) ≡ Ok ps
pairs_back [] are = refl
pairs_back (p ∷ ps) are = rw (pair_back p (All-head IsTypedPair p ps are), pairs_back ps (All-tail IsTypedPair p ps are)) refl

pub textual_back : (source : ModSource) (force : Period) (edit : TextualMod) → IsTypedSource source → is_spelled_source source ≡ true → IsTypedPeriod force → IsTypedEdit edit
    → is_spelled_edit edit ≡ true → textual_in (textual_data source force edit) ≡ Ok (Textual source force edit)
unfolding textual_data textual_in kind_in payload_in form_in has_members members_in either_in field_in optional_in items_in text_in repeal_in substitute_nodes_in substitute_text_in insert_nodes_in no_spot_in text_pos_in insert_text_in renumber_in split_at_in split_in join_in wid_in destination_in anchor_in occurrence_in spot_in
textual_back source force (Repeal wid) from names days typed well = rw (source_back source from names, period_back force days) refl
textual_back source force (SubstituteNodes wid new) from names days typed well =
    rw (source_back source from names, period_back force days, nodes_back new typed.1 well) refl
textual_back source force (SubstituteText wid spot new) from names days typed well =
    rw (source_back source from names, period_back force days, number_back 65535 spot.occurrence typed.1.0) refl
textual_back source force (InsertNodes wid at new) from names days typed well =
    rw (source_back source from names, period_back force days, place_back wid at, nodes_back new typed.1 well) refl
textual_back source force (InsertText wid stands.Start new) from names days typed well =
    rw (source_back source from names, period_back force days, place_back wid pos.Start) refl
textual_back source force (InsertText wid stands.End new) from names days typed well =
    rw (source_back source from names, period_back force days, place_back wid pos.End) refl
textual_back source force (InsertText wid (stands.Before spot) new) from names days typed well =
    rw (source_back source from names, period_back force days, place_back wid pos.Before, number_back 65535 spot.occurrence typed.1.0) refl
textual_back source force (InsertText wid (stands.After spot) new) from names days typed well =
    rw (source_back source from names, period_back force days, place_back wid pos.After, number_back 65535 spot.occurrence typed.1.0) refl
textual_back source force (Renumber pairs) from names days typed well =
    rw (source_back source from names, period_back force days, pairs_back pairs typed) refl
textual_back source force (Split wid (cuts.Text spot) num heading) from names days typed well =
    rw (source_back source from names, period_back force days, number_back 65535 spot.occurrence typed.1.0, num_back num typed.2) refl
textual_back source force (Split wid (cuts.Child child) num heading) from names days typed well =
    rw (source_back source from names, period_back force days, num_back num typed.2) refl
textual_back source force (Join wid second separator) from names days typed well = rw (source_back source from names, period_back force days) refl
