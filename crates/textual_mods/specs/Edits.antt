-- What one textual modification makes of the text of an act.
use Rattle.std.specs.Prelude.{◌≡◌, Option, Some, None, Result, Ok, Err}
use Rattle.desk_base.specs.declared.id.Id.{Id}
use Rattle.act_tree.specs.declared.cause.Cause.{Cause}
use Rattle.act_tree.specs.declared.tree.Tree.{Tree}
use Rattle.act_tree.specs.declared.limits.NodeLimit.TheVariants.{Plain}
use Rattle.act_tree.specs.declared.surveying.TheConstants.{NONE_THROUGHOUT}
use Rattle.act_tree.specs.Branches.{Branches, branches_of}
use Rattle.act_tree.specs.Faults.{first_cause, first_fault}
use Rattle.act_tree.specs.Provisions.{Provision}
use Rattle.act_tree.specs.Seen.{tree_view}
use Rattle.act_tree.specs.Trees.{TreeValue, changed_once}
use Rattle.textual_mods.specs.StructureEdits.{repealed, nodes_substituted, nodes_inserted}
use Rattle.textual_mods.specs.TextEdits.{text_substituted, text_inserted}
use Rattle.textual_mods.specs.Renumberings.{nums_given}
use Rattle.textual_mods.specs.Splits.{split_at_cut}
use Rattle.textual_mods.specs.Joins.{joined_with}
use Rattle.textual_mods.specs.declared.edit.TextualMod.{TextualMod}
use Rattle.textual_mods.specs.declared.edit.TextualMod.TheVariants.{Repeal, SubstituteNodes, SubstituteText, InsertNodes, InsertText, Renumber, Split, Join}
use Rattle.textual_mods.specs.declared.outcome.Outcome.{Outcome}
use Rattle.textual_mods.specs.declared.outcome.Outcome.TheVariants.{Done, Unapplied}

-- the text that an edit of the modification of this id makes of a text, or the first of the causes that hold it back
-- before a change is made: a target is missing, an anchor is missing, an occurrence is missing, two elements differ
abbrev pub edited : Id → TextualMod → Branches Provision → Result (Branches Provision) Cause
edited by (Repeal wid) body = repealed wid body
edited by (SubstituteNodes wid new) body = nodes_substituted by wid (branches_of new) body
edited by (SubstituteText wid spot new) body = text_substituted wid spot new body
edited by (InsertNodes wid pos new) body = nodes_inserted by wid pos (branches_of new) body
edited by (InsertText wid at new) body = text_inserted wid at new body
edited by (Renumber pairs) body = nums_given pairs body
edited by (Split wid at num heading) body = split_at_cut by wid at num heading body
edited by (Join wid second separator) body = joined_with wid second separator body

-- a text, or the cause for which no tree has it
abbrev pub unless_for : Option Cause → Branches Provision → Result (Branches Provision) Cause
unless_for None body = Ok body
unless_for (Some cause) body = Err cause

-- a changed text of a tree, unless the tree would not be well-formed with it: two provisions would have one eId, or it
-- would be too deep, have too many provisions, or too long a text
abbrev pub within_limits : TreeValue → Result (Branches Provision) Cause → Result (Branches Provision) Cause
within_limits tree (Err cause) = Err cause
within_limits tree (Ok body) = unless_for (first_cause (record tree { body = body })) body

-- the text that a modification of this id makes of a tree, or the first cause that holds it back
abbrev pub applied : TreeValue → Id → TextualMod → Result (Branches Provision) Cause
applied tree by edit = within_limits tree (edited by edit tree.body)

-- the tree afterwards: changed once, or as it was
abbrev pub tree_after : TreeValue → Result (Branches Provision) Cause → TreeValue
tree_after tree (Ok body) = changed_once tree body
tree_after tree (Err cause) = tree

-- a tree after the edit of a modification of this id, whether it was made or held back
abbrev pub tree_with : TreeValue → Id → TextualMod → TreeValue
tree_with tree by edit = tree_after tree (applied tree by edit)

-- what is answered
abbrev pub outcome_of : Result (Branches Provision) Cause → Outcome
outcome_of (Ok body) = Done
outcome_of (Err cause) = Unapplied cause

-- what is answered for a change of the text of a tree
abbrev pub answer_to : Tree → (Branches Provision → Result (Branches Provision) Cause) → Outcome
answer_to t change = outcome_of (within_limits (tree_view t) (change (tree_view t).body))

-- the tree after a change of its text: changed once, or as it was
abbrev pub settled : Tree → (Branches Provision → Result (Branches Provision) Cause) → TreeValue
settled t change = tree_after (tree_view t) (within_limits (tree_view t) (change (tree_view t).body))

-- what an edit keeps before it comes to a tree: nodes that it brings would make a tree by themselves, as the children
-- of a root at which no element is numbered throughout, in a plain act
abbrev pub IsSound : TextualMod → Type 0
IsSound (SubstituteNodes wid new) = first_fault NONE_THROUGHOUT Plain (branches_of new) ≡ None
IsSound (InsertNodes wid pos new) = first_fault NONE_THROUGHOUT Plain (branches_of new) ≡ None
IsSound edit = Unit {0}
