-- What a draft prints of a modification nests at most 30 deep, where the nodes that it brings nest at most 12 deep.
use Rattle.std.proofs.Common.{◌≡◌, ◌≤◌, ℕ, ◌*◌, true, ◌&&◌, List, [], ◌∷◌, Option, Some, None, arith}
use Rattle.std.specs.Prelude.{nat_le}
use Rattle.std.proofs.lemmas.Bool.{and_parts, leb-true}
use Rattle.serde_json.specs.Data.{depth, items_depth}
use Rattle.desk_base.specs.declared.period.Period.{Period}
use Rattle.act_tree.specs.Branches.{Branch, Branches, branch, no_branches, more_branches, branches_of, height, heights}
use Rattle.act_tree.specs.Provisions.{Own}
use Rattle.bearing_mods.specs.declared.efficacy.EfficacyEffect.{EfficacyEffect}
use Rattle.bearing_mods.specs.declared.efficacy.EfficacyEffect.TheVariants as made
use Rattle.bearing_mods.specs.declared.force.ForceEffect.{ForceEffect}
use Rattle.textual_mods.specs.declared.edit.SplitAt.TheVariants as cuts
use Rattle.textual_mods.specs.declared.edit.TextPos.TheVariants as stands
use Rattle.textual_mods.specs.declared.edit.TextualMod.{TextualMod}
use Rattle.textual_mods.specs.declared.edit.TextualMod.TheVariants.{Repeal, SubstituteNodes, SubstituteText, InsertNodes, InsertText, Renumber, Split, Join}
use Rattle.law_register.specs.Law.Spellable.{is_counted, can_spell_nodes, can_spell_payload, can_spell_edit, can_spell_modification}
use Rattle.law_register.specs.declared.law.modification.Destination.{Destination}
use Rattle.law_register.specs.declared.law.modification.Destination.TheVariants as destination
use Rattle.law_register.specs.declared.law.modification.ModSource.{ModSource}
use Rattle.law_register.specs.declared.law.modification.Modification.{Modification}
use Rattle.law_register.specs.declared.law.modification.Modification.TheVariants.{Textual, Force, Efficacy}
use Rattle.law_register.specs.declared.register.draft.DraftItem.{DraftItem}
use Rattle.akn_json.specs.Printing.Answers.{texts_data}
use Rattle.akn_json.specs.Printing.Bearings.{destination_data, force_data, efficacy_data}
use Rattle.akn_json.specs.Printing.Drafts.{modification_data, draft_items_data, draft_value}
use Rattle.akn_json.specs.Printing.Edits.{pairs_data, textual_data}
use Rattle.akn_json.specs.Printing.Nodes.{brought_data, all_brought_data, payload_data}
use Rattle.akn_json.specs.Printing.Parts.{period_data, source_data}
use Rattle.akn_json.specs.Reading.Drafts.{can_spell_items}

texts_low : (texts : List (List ℕ)) → items_depth (texts_data texts) ≤ 0
texts_low [] = omega arith
texts_low (text ∷ texts) = omega (arith, texts_low texts)

-- each node opens an object, and the list of those beneath it
mutual
  node_low : (b : Branch Own) → depth (brought_data b) ≤ 2 * height b
  node_low (branch own below) = omega (arith, nodes_low below, texts_low own.refs)

  nodes_low : (bs : Branches Own) → items_depth (all_brought_data bs) ≤ 2 * heights bs
  nodes_low no_branches = omega arith
  nodes_low (more_branches b bs) = omega (arith, node_low b, nodes_low bs)

payload_low : (nodes : List (Branch Own)) → can_spell_payload nodes ≡ true → depth (payload_data nodes) ≤ 25
payload_low nodes able =
    let rest = (and_parts (is_counted nodes) (nat_le (heights (branches_of nodes)) 12 && can_spell_nodes (branches_of nodes)) able).1 in
    let most = leb-true (heights (branches_of nodes)) 12 (and_parts (nat_le (heights (branches_of nodes)) 12) (can_spell_nodes (branches_of nodes)) rest).0 in
    omega (arith, most, nodes_low (branches_of nodes))

pairs_low : (pairs : List (List ℕ × List ℕ)) → items_depth (pairs_data pairs) ≤ 1
pairs_low [] = omega arith
pairs_low (pair ∷ pairs) = omega (arith, pairs_low pairs)

period_low_of : (start : ℕ) (end : Option ℕ) → depth (period_data (record { start = start; end = end })) ≤ 1
period_low_of start None = omega arith
period_low_of start (Some day) = omega arith

period_low : (p : Period) → depth (period_data p) ≤ 1
period_low p = period_low_of p.start p.end

source_low_of : (href : List ℕ) (place : ℕ) (provision : Option (List ℕ))
    → depth (source_data (record { href = href; place = place; provision = provision })) ≤ 1
source_low_of href place None = omega arith
source_low_of href place (Some wid) = omega arith

source_low : (s : ModSource) → depth (source_data s) ≤ 1
source_low s = source_low_of s.href s.place s.provision

destination_low : (to : Destination) → depth (destination_data to) ≤ 1
destination_low (destination.Modification id) = omega arith
destination_low (destination.Node wid) = omega arith

textual_low : (source : ModSource) (force : Period) (edit : TextualMod) → can_spell_edit edit ≡ true → depth (textual_data source force edit) ≤ 26
unfolding textual_data
textual_low source force (Repeal wid) able = omega (arith, source_low source, period_low force)
textual_low source force (SubstituteNodes wid new) able =
    omega (arith, source_low source, period_low force, payload_low new (and_parts (is_counted wid) (can_spell_payload new) able).1)
textual_low source force (SubstituteText wid spot new) able = omega (arith, source_low source, period_low force)
textual_low source force (InsertNodes wid at new) able =
    omega (arith, source_low source, period_low force, payload_low new (and_parts (is_counted wid) (can_spell_payload new) able).1)
textual_low source force (InsertText wid stands.Start new) able = omega (arith, source_low source, period_low force)
textual_low source force (InsertText wid stands.End new) able = omega (arith, source_low source, period_low force)
textual_low source force (InsertText wid (stands.Before spot) new) able = omega (arith, source_low source, period_low force)
textual_low source force (InsertText wid (stands.After spot) new) able = omega (arith, source_low source, period_low force)
textual_low source force (Renumber pairs) able = omega (arith, source_low source, period_low force, pairs_low pairs)
textual_low source force (Split wid (cuts.Text spot) num heading) able = omega (arith, source_low source, period_low force)
textual_low source force (Split wid (cuts.Child child) num heading) able = omega (arith, source_low source, period_low force)
textual_low source force (Join wid second separator) able = omega (arith, source_low source, period_low force)

force_low : (source : ModSource) (to : Destination) (on : ℕ) (e : ForceEffect) → depth (force_data source to on e) ≤ 26
force_low source to on e = omega (arith, source_low source, destination_low to)

efficacy_low : (source : ModSource) (to : Destination) (on : ℕ) (e : EfficacyEffect) → depth (efficacy_data source to on e) ≤ 26
efficacy_low source to on (made.Entry date) = omega (arith, source_low source, destination_low to)
efficacy_low source to on (made.Ended date) = omega (arith, source_low source, destination_low to)
efficacy_low source to on (made.Retroactive date) = omega (arith, source_low source, destination_low to)
efficacy_low source to on (made.Postponed date) = omega (arith, source_low source, destination_low to)
efficacy_low source to on (made.Prorogued date) = omega (arith, source_low source, destination_low to)
efficacy_low source to on made.Extra = omega (arith, source_low source, destination_low to)
efficacy_low source to on (made.Inapplied days) = omega (arith, source_low source, destination_low to, period_low days)

pub modification_low : (m : Modification) → can_spell_modification m ≡ true → depth (modification_data m) ≤ 27
unfolding modification_data
modification_low (Textual source force edit) able = omega (arith, textual_low source force edit able)
modification_low (Force source to on e) able = omega (arith, force_low source to on e)
modification_low (Efficacy source to on e) able = omega (arith, efficacy_low source to on e)

items_low : (items : List DraftItem) → can_spell_items items ≡ true → items_depth (draft_items_data items) ≤ 28
items_low [] able = omega arith
items_low (i ∷ items) able =
    let parts = and_parts (can_spell_modification i.body) (can_spell_items items) able in
    omega (arith, modification_low i.body parts.0, items_low items parts.1)

pub draft_low : (items : List DraftItem) → can_spell_items items ≡ true → depth (draft_value items) ≤ 30
draft_low items able = omega (arith, items_low items able)
