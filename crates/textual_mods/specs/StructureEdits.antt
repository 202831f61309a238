-- Edits of structure: repeal, and substitution and insertion of provisions.
use Rattle.std.specs.Prelude.{ℕ, Bool, List, Result, Ok, Err, is_some, if◌then◌else◌}
use Rattle.desk_base.specs.declared.id.Id.{Id}
use Rattle.act_tree.specs.declared.cause.Cause.{Cause}
use Rattle.act_tree.specs.declared.cause.Cause.TheVariants.{TargetMissing, AnchorMissing}
use Rattle.act_tree.specs.Branches.{Branches}
use Rattle.act_tree.specs.Brought.{brought}
use Rattle.act_tree.specs.Provisions.{Own, Provision}
use Rattle.act_tree.specs.Changes.{is_in, removed, substituted, grafted, changed, before, after}
use Rattle.textual_mods.specs.Targets.{provision_named, children_named}
use Rattle.textual_mods.specs.declared.edit.Pos.{Pos}
use Rattle.textual_mods.specs.declared.edit.Pos.TheVariants as stands

-- a repeal takes its target away with all that stands beneath it; a repeal of the root leaves nothing
abbrev pub repealed : List ℕ → Branches Provision → Result (Branches Provision) Cause
repealed wid body = if is_in wid body then Ok (removed wid body) else Err TargetMissing

-- provisions that are brought stand in the place of the target and of all beneath it; of the root they are the children
abbrev pub nodes_substituted : Id → List ℕ → Branches Own → Branches Provision → Result (Branches Provision) Cause
nodes_substituted by wid new body =
    if is_in wid body then Ok (substituted wid (brought by new) body) else Err TargetMissing

-- the place beside or in the provision of this wId is there: the root has children and no siblings
abbrev pub is_anchor : Pos → List ℕ → Branches Provision → Bool
is_anchor stands.Before wid body = is_some (provision_named wid body)
is_anchor stands.After wid body = is_some (provision_named wid body)
is_anchor stands.Start wid body = is_in wid body
is_anchor stands.End wid body = is_in wid body

-- provisions with others right before or right behind the one of this wId, or first or last among its children
abbrev pub placed : Pos → List ℕ → Branches Provision → Branches Provision → Branches Provision
placed stands.Before wid new body = changed (before new) wid body
placed stands.After wid new body = changed (after new) wid body
placed stands.Start wid new body = grafted wid 0 new body
placed stands.End wid new body = grafted wid (children_named wid body) new body

-- provisions that are brought stand beside or in the provision of this wId
abbrev pub nodes_inserted : Id → List ℕ → Pos → Branches Own → Branches Provision → Result (Branches Provision) Cause
nodes_inserted by wid pos new body =
    if is_anchor pos wid body then Ok (placed pos wid (brought by new) body) else Err AnchorMissing
