-- The limits of what an edit names and brings: wIds, texts, occurrences, nodes and nums.
use Rattle.std.specs.Prelude.{ℕ, nat_le, nat_lt, Bool, true, not, ◌&&◌, List, length, map, Option, None}
use Rattle.std.specs.List.{list_all}
use Rattle.std.specs.Str.{bytes_eq}
use Rattle.act_tree.specs.Branches.{Branch, branches_of}
use Rattle.act_tree.specs.Faults.{first_fault}
use Rattle.act_tree.specs.Limits.{is_wid, have_few_refs}
use Rattle.act_tree.specs.Provisions.{Own}
use Rattle.act_tree.specs.Wids.{one_twice}
use Rattle.act_tree.specs.declared.build_fault.BuildFault.{BuildFault}
use Rattle.act_tree.specs.declared.limits.NodeLimit.TheVariants.{Plain}
use Rattle.act_tree.specs.declared.limits.TheConstants.{MAX_TEXT_BYTES}
use Rattle.act_tree.specs.declared.surveying.TheConstants.{NONE_THROUGHOUT}
use Rattle.textual_mods.specs.declared.edit.TextualMod.{TextualMod}
use Rattle.textual_mods.specs.declared.edit.TextualMod.TheVariants.{Repeal, SubstituteNodes, SubstituteText, InsertNodes, InsertText, Renumber, Split, Join}
use Rattle.textual_mods.specs.declared.edit.Spot.{Spot}
use Rattle.textual_mods.specs.declared.edit.SplitAt.{SplitAt}
use Rattle.textual_mods.specs.declared.edit.SplitAt.TheVariants as cuts
use Rattle.textual_mods.specs.declared.edit.TextPos.{TextPos}
use Rattle.textual_mods.specs.declared.edit.TextPos.TheVariants as stands
use Rattle.textual_mods.specs.declared.fitting.TheConstants.{MAX_ITEMS}

-- a text is no longer than an edit may bring or look for
abbrev pub text_fits : List ℕ → Bool
text_fits text = nat_le (length text) MAX_TEXT_BYTES

-- an occurrence is counted from 1, of a text that is not empty
abbrev pub spot_fits : Spot → Bool
spot_fits spot = nat_lt 0 (length spot.old) && text_fits spot.old && nat_lt 0 spot.occurrence

-- nodes that are brought: there are some, not too many side by side, and none has too many refs
abbrev pub payload_fits : List (Branch Own) → Bool
payload_fits nodes = nat_lt 0 (length nodes) && nat_le (length nodes) MAX_ITEMS && have_few_refs (branches_of nodes)

-- the pairs of a renumbering: there are some, not too many, and none names a provision that another names
abbrev pub pairs_fit : List (List ℕ × List ℕ) → Bool
pairs_fit pairs =
    nat_lt 0 (length pairs) && nat_le (length pairs) MAX_ITEMS && list_all (λ pair. is_wid pair.0) pairs
    && not (one_twice (map (λ pair. pair.0) pairs))

-- where a text is inserted: an occurrence keeps its limits
abbrev pub text_pos_fits : TextPos → Bool
text_pos_fits stands.Start = true
text_pos_fits stands.End = true
text_pos_fits (stands.Before spot) = spot_fits spot
text_pos_fits (stands.After spot) = spot_fits spot

-- where a provision is split: an occurrence keeps its limits, and so does the name of a child
abbrev pub split_at_fits : SplitAt → Bool
split_at_fits (cuts.Text spot) = spot_fits spot
split_at_fits (cuts.Child wid) = is_wid wid

-- what an edit names and brings keeps its limits
abbrev pub edit_fits : TextualMod → Bool
edit_fits (Repeal wid) = is_wid wid
edit_fits (SubstituteNodes wid new) = is_wid wid && payload_fits new
edit_fits (SubstituteText wid spot new) = is_wid wid && spot_fits spot && text_fits new
edit_fits (InsertNodes wid pos new) = is_wid wid && payload_fits new
edit_fits (InsertText wid at new) = is_wid wid && text_pos_fits at && text_fits new
edit_fits (Renumber pairs) = pairs_fit pairs
edit_fits (Split wid at num heading) = is_wid wid && split_at_fits at && text_fits heading
edit_fits (Join wid second separator) = is_wid wid && is_wid second && not (bytes_eq wid second) && text_fits separator

-- the first fault of the nodes that an edit brings, as the children of a root at which no element is numbered throughout,
-- in a plain act
abbrev pub payload_fault : TextualMod → Option BuildFault
payload_fault (SubstituteNodes wid new) = first_fault NONE_THROUGHOUT Plain (branches_of new)
payload_fault (InsertNodes wid pos new) = first_fault NONE_THROUGHOUT Plain (branches_of new)
payload_fault _ = None
