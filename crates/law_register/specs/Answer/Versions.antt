-- Versions, as a clause sees them.
use Rattle.std.specs.Prelude.{◌≡◌, Option}
use Rattle.desk_base.specs.declared.id.Id.{Id}
use Rattle.act_tree.specs.Seen.{tree_view}
use Rattle.textual_mods.specs.declared.edit.TextualMod.{TextualMod}
use Rattle.law_register.specs.declared.answer.version.Version.{Version}
use Rattle.law_register.specs.Answer.Replay.{VersionValue, edited_by}

-- a version's text, and what became of the modifications
abbrev pub version_view : Version → VersionValue
version_view v = record { tree = tree_view v.tree; applied = v.applied; unapplied = v.unapplied }

-- a version became another by the edit of a modification, if there is one
abbrev pub IsEdited : Version → Id → Option TextualMod → Version → Type 0
IsEdited old id edit new = version_view new ≡ edited_by (version_view old) id edit
