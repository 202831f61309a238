-- Edits of the content of a provision: substitution and insertion of text.
use Rattle.std.specs.Prelude.{ℕ, ◌++◌, List, Option, Some, None, Result, Ok, Err, option_map}
use Rattle.act_tree.specs.declared.cause.Cause.{Cause}
use Rattle.act_tree.specs.declared.cause.Cause.TheVariants.{TargetMissing, AnchorMissing, OldTextMissing}
use Rattle.act_tree.specs.Branches.{Branch, Branches, branch}
use Rattle.act_tree.specs.Provisions.{Provision}
use Rattle.act_tree.specs.Changes.{changed, with_content}
use Rattle.textual_mods.specs.Occurrences.{parted_at}
use Rattle.textual_mods.specs.Targets.{provision_named}
use Rattle.textual_mods.specs.declared.edit.Spot.{Spot}
use Rattle.textual_mods.specs.declared.edit.TextPos.{TextPos}
use Rattle.textual_mods.specs.declared.edit.TextPos.TheVariants as stands

-- both parts of a text, with another between them
abbrev pub around : List ℕ → List ℕ × List ℕ → List ℕ
around middle parts = parts.0 ++ (middle ++ parts.1)

-- a content in which an occurrence has become another text, if the content has that occurrence
abbrev pub with_spot : Spot → List ℕ → List ℕ → Option (List ℕ)
with_spot spot new content = option_map (around new) (parted_at spot.old spot.occurrence content)

-- a content with a text at a place of it, if the content has that place
abbrev pub with_text : TextPos → List ℕ → List ℕ → Option (List ℕ)
with_text stands.Start new content = Some (new ++ content)
with_text stands.End new content = Some (content ++ new)
with_text (stands.Before spot) new content = with_spot spot (new ++ spot.old) content
with_text (stands.After spot) new content = with_spot spot (spot.old ++ new) content

-- the provisions with another content at the one of this wId, if there is one
abbrev pub content_set : List ℕ → Option (List ℕ) → Branches Provision → Result (Branches Provision) Cause
content_set wid None body = Err OldTextMissing
content_set wid (Some content) body = Ok (changed (with_content content) wid body)

-- the content of the provision is changed, or the cause that there is no such provision
abbrev pub content_changed : Cause → (List ℕ → Option (List ℕ)) → List ℕ → Option (Branch Provision)
    → Branches Provision → Result (Branches Provision) Cause
content_changed missing change wid None body = Err missing
content_changed missing change wid (Some (branch p below)) body = content_set wid (change p.own.content) body

-- an occurrence of `old` in the content of the target becomes another text
abbrev pub text_substituted : List ℕ → Spot → List ℕ → Branches Provision → Result (Branches Provision) Cause
text_substituted wid spot new body =
    content_changed TargetMissing (with_spot spot new) wid (provision_named wid body) body

-- a text stands at a place of the content of a provision
abbrev pub text_inserted : List ℕ → TextPos → List ℕ → Branches Provision → Result (Branches Provision) Cause
text_inserted wid at new body = content_changed AnchorMissing (with_text at new) wid (provision_named wid body) body
