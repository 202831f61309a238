-- What the types of the parts of a modification promise: texts are UTF-8, days are days of the calendar, nums and the IRIs of works keep
-- their rules, and numbers are in the range of their types.
use Rattle.std.specs.Prelude.{◌≡◌, ◌≤◌, ℕ, true, List, All, IfSome, is_ok}
use Rattle.std.specs.Str.{is_utf8}
use Rattle.desk_base.specs.Days.{IsDay}
use Rattle.desk_base.specs.declared.id.Id.{Id}
use Rattle.desk_base.specs.declared.period.Period.{Period}
use Rattle.eid_paths.specs.Nums.{is_num}
use Rattle.frbr_names.specs.Works.{work_of}
use Rattle.act_tree.specs.Branches.{Branch, Branches, branch, no_branches, more_branches, branches_of}
use Rattle.act_tree.specs.Provisions.{Own}
use Rattle.bearing_mods.specs.declared.efficacy.EfficacyEffect.{EfficacyEffect}
use Rattle.bearing_mods.specs.declared.efficacy.EfficacyEffect.TheVariants as made
use Rattle.law_register.specs.declared.law.modification.Destination.{Destination}
use Rattle.law_register.specs.declared.law.modification.Destination.TheVariants as destination
use Rattle.law_register.specs.declared.law.modification.ModSource.{ModSource}
use Rattle.law_register.specs.declared.law.modification.Modification.{Modification}
use Rattle.law_register.specs.declared.law.modification.Modification.TheVariants.{Textual, Force, Efficacy}
use Rattle.law_register.specs.declared.register.draft.DraftItem.{DraftItem}
use Rattle.textual_mods.specs.declared.edit.SplitAt.{SplitAt}
use Rattle.textual_mods.specs.declared.edit.SplitAt.TheVariants as cuts
use Rattle.textual_mods.specs.declared.edit.Spot.{Spot}
use Rattle.textual_mods.specs.declared.edit.TextPos.{TextPos}
use Rattle.textual_mods.specs.declared.edit.TextPos.TheVariants as stands
use Rattle.textual_mods.specs.declared.edit.TextualMod.{TextualMod}
use Rattle.textual_mods.specs.declared.edit.TextualMod.TheVariants.{Repeal, SubstituteNodes, SubstituteText, InsertNodes, InsertText, Renumber, Split, Join}
use Rattle.akn_json.specs.Printing.Bearings.{date_of_force}

-- a text
abbrev pub IsTypedText : List ℕ → Type 0
IsTypedText text = is_utf8 text ≡ true

-- a period
abbrev pub IsTypedPeriod : Period → Type 0
IsTypedPeriod p = IsDay p.start × IfSome p.end IsDay

-- the IRI of a work, where a modification comes from, and what one of force or efficacy is directed at
abbrev pub IsTypedWork : List ℕ → Type 0
IsTypedWork iri = (is_ok (work_of iri) ≡ true) × IsTypedText iri

abbrev pub IsTypedSource : ModSource → Type 0
IsTypedSource s = IsTypedWork s.href × (s.place ≤ 65535) × IfSome s.provision IsTypedText

abbrev pub IsTypedId : Id → Type 0
IsTypedId i = (i.law ≤ 4294967295) × (i.item ≤ 65535)

abbrev pub IsTypedDestination : Destination → Type 0
IsTypedDestination (destination.Modification id) = IsTypedId id
IsTypedDestination (destination.Node wid) = IsTypedText wid

-- what a node says of itself, a node with all beneath it, and nodes side by side
abbrev pub IsTypedOwn : Own → Type 0
IsTypedOwn own = (is_num own.num ≡ true) × IsTypedText own.heading × IsTypedText own.content × All IsTypedText own.refs

abbrev mutual
  pub IsTypedNode : Branch Own → Type 0
  IsTypedNode (branch own below) = IsTypedOwn own × AreTypedNodes below

  pub AreTypedNodes : Branches Own → Type 0
  AreTypedNodes no_branches = Unit {0}
  AreTypedNodes (more_branches b bs) = IsTypedNode b × AreTypedNodes bs

-- the nodes that an edit brings
abbrev pub IsTypedPayload : List (Branch Own) → Type 0
IsTypedPayload nodes = AreTypedNodes (branches_of nodes)

-- an occurrence of a text, where a text is inserted, where a provision is split, and a provision with the num that it gets
abbrev pub IsTypedSpot : Spot → Type 0
IsTypedSpot s = (s.occurrence ≤ 65535) × IsTypedText s.old

abbrev pub IsTypedTextPos : TextPos → Type 0
IsTypedTextPos (stands.Before s) = IsTypedSpot s
IsTypedTextPos (stands.After s) = IsTypedSpot s
IsTypedTextPos stands.Start = Unit {0}
IsTypedTextPos stands.End = Unit {0}

abbrev pub IsTypedSplitAt : SplitAt → Type 0
IsTypedSplitAt (cuts.Text s) = IsTypedSpot s
IsTypedSplitAt (cuts.Child wid) = IsTypedText wid

abbrev pub IsTypedPair : List ℕ × List ℕ → Type 0
IsTypedPair p = (is_num p.1 ≡ true) × IsTypedText p.0

-- an edit
abbrev pub IsTypedEdit : TextualMod → Type 0
IsTypedEdit (Repeal wid) = IsTypedText wid
IsTypedEdit (SubstituteNodes wid new) = IsTypedText wid × IsTypedPayload new
IsTypedEdit (SubstituteText wid spot new) = IsTypedText wid × IsTypedSpot spot × IsTypedText new
IsTypedEdit (InsertNodes wid pos new) = IsTypedText wid × IsTypedPayload new
IsTypedEdit (InsertText wid at new) = IsTypedText wid × IsTypedTextPos at × IsTypedText new
IsTypedEdit (Renumber pairs) = All IsTypedPair pairs
IsTypedEdit (Split wid at num heading) = IsTypedText wid × IsTypedSplitAt at × (is_num num ≡ true) × IsTypedText heading
IsTypedEdit (Join wid second separator) = IsTypedText wid × IsTypedText second × IsTypedText separator

-- an effect on efficacy
abbrev pub IsTypedEffect : EfficacyEffect → Type 0
IsTypedEffect (made.Entry date) = IsDay date
IsTypedEffect (made.Ended date) = IsDay date
IsTypedEffect (made.Retroactive date) = IsDay date
IsTypedEffect (made.Postponed date) = IsDay date
IsTypedEffect (made.Prorogued date) = IsDay date
IsTypedEffect made.Extra = Unit {0}
IsTypedEffect (made.Inapplied days) = IsTypedPeriod days

-- a modification
abbrev pub IsTypedModification : Modification → Type 0
IsTypedModification (Textual source force edit) = IsTypedSource source × IsTypedPeriod force × IsTypedEdit edit
IsTypedModification (Force source to on effect) =
    IsTypedSource source × IsTypedDestination to × IsDay on × IsDay (date_of_force effect)
IsTypedModification (Efficacy source to on effect) =
    IsTypedSource source × IsTypedDestination to × IsDay on × IsTypedEffect effect

-- an item of a draft
abbrev pub IsTypedItem : DraftItem → Type 0
IsTypedItem i = (i.item ≤ 4294967295) × IsTypedWork i.work × IsTypedModification i.body
