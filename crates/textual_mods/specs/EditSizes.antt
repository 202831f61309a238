-- How many bytes an edit takes where it is kept: a number of 1 or 2 bytes, a text behind its length, a list behind its
-- count.
use Rattle.std.specs.Prelude.{ℕ, ◌+◌, List, [], ◌∷◌}
use Rattle.desk_base.specs.Sizes.{name_size, text_size}
use Rattle.act_tree.specs.NodeSizes.{payload_size}
use Rattle.textual_mods.specs.declared.edit.Spot.{Spot}
use Rattle.textual_mods.specs.declared.edit.SplitAt.{SplitAt}
use Rattle.textual_mods.specs.declared.edit.SplitAt.TheVariants as cuts
use Rattle.textual_mods.specs.declared.edit.TextPos.{TextPos}
use Rattle.textual_mods.specs.declared.edit.TextPos.TheVariants as stands
use Rattle.textual_mods.specs.declared.edit.TextualMod.{TextualMod}
use Rattle.textual_mods.specs.declared.edit.TextualMod.TheVariants.{Repeal, SubstituteNodes, SubstituteText, InsertNodes, InsertText, Renumber, Split, Join}

-- an occurrence of a text
abbrev pub spot_size : Spot → ℕ
spot_size spot = text_size spot.old + 2

-- where a text is inserted, in one byte, and the occurrence at which it is
abbrev pub text_pos_size : TextPos → ℕ
text_pos_size stands.Start = 1
text_pos_size stands.End = 1
text_pos_size (stands.Before spot) = 1 + spot_size spot
text_pos_size (stands.After spot) = 1 + spot_size spot

-- where a provision is split, behind a byte for its kind
abbrev pub split_at_size : SplitAt → ℕ
split_at_size (cuts.Text spot) = 1 + spot_size spot
split_at_size (cuts.Child wid) = 1 + text_size wid

-- the pairs of a renumbering, without their count
abbrev pub pairs_size : List (List ℕ × List ℕ) → ℕ
pairs_size [] = 0
pairs_size (pair ∷ pairs) = text_size pair.0 + name_size pair.1 + pairs_size pairs

-- an edit, behind a byte for its kind
abbrev pub edit_size : TextualMod → ℕ
edit_size (Repeal wid) = 1 + text_size wid
edit_size (SubstituteNodes wid new) = 1 + text_size wid + payload_size new
edit_size (SubstituteText wid spot new) = 1 + text_size wid + spot_size spot + text_size new
edit_size (InsertNodes wid pos new) = 1 + text_size wid + 1 + payload_size new
edit_size (InsertText wid at new) = 1 + text_size wid + text_pos_size at + text_size new
edit_size (Renumber pairs) = 1 + (2 + pairs_size pairs)
edit_size (Split wid at num heading) = 1 + text_size wid + split_at_size at + name_size num + text_size heading
edit_size (Join wid second separator) = 1 + text_size wid + text_size second + text_size separator
