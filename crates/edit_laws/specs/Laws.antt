-- Words of the laws: trees after edits, what undoes an edit, and edits at provisions that stand apart.
use Rattle.std.specs.Prelude.{ℕ, ◌≡◌, Bool, true, false, not, ◌&&◌, List, [], ◌∷◌, ◌++◌, map, Option, Some, None, if◌then◌else◌, nat_eq}
use Rattle.std.specs.List.{list_all, starts_with}
use Rattle.std.specs.Str.{bytes_eq}
use Rattle.desk_base.specs.declared.id.Id.{Id}
use Rattle.act_tree.specs.Branches.{Branch, Branches, branch, no_branches}
use Rattle.act_tree.specs.Brought.{bringer, brought_wid}
use Rattle.act_tree.specs.Changes.{Step, has_wid, holds, joined, found, root_wid}
use Rattle.act_tree.specs.Provisions.{Provision}
use Rattle.act_tree.specs.Trees.{TreeValue, one_more}
use Rattle.act_tree.specs.Wids.{wids, all_wids}
use Rattle.textual_mods.specs.Edits.{applied, outcome_of}
use Rattle.textual_mods.specs.Targets.{provision_named}
use Rattle.textual_mods.specs.declared.edit.TextualMod.{TextualMod}
use Rattle.textual_mods.specs.declared.edit.TextualMod.TheVariants.{Repeal, SubstituteNodes, SubstituteText, InsertNodes, InsertText, Renumber, Split, Join}
use Rattle.textual_mods.specs.declared.outcome.Outcome.TheVariants.{Done}

-- the edit is made, and not held back
abbrev pub IsMade : TreeValue → Id → TextualMod → Type 0
IsMade tree by edit = outcome_of (applied tree by edit) ≡ Done

-- a tree of the same text after two more changes
abbrev pub twice_changed : TreeValue → TreeValue
twice_changed tree = record tree { changes = one_more (one_more tree.changes) }

-- the wId of the second part where this provision is split: that of a provision of the same element, with this num
abbrev pub wid_of_second : Id → List ℕ → Option (Branch Provision) → List ℕ
wid_of_second by num None = []
wid_of_second by num (Some (branch p below)) = brought_wid by p.own.element num

-- the num of a provision
abbrev pub num_of : Option (Branch Provision) → List ℕ
num_of None = []
num_of (Some (branch p below)) = p.own.num

-- the wIds of pairs, each with the num that its provision has
abbrev pub nums_before : List (List ℕ × List ℕ) → Branches Provision → List (List ℕ × List ℕ)
nums_before pairs body = map (λ pair. (pair.0, num_of (found pair.0 body))) pairs

-- the wId begins with the name of a modification and `__`, as those do that it brings
abbrev pub is_brought_by : Id → List ℕ → Bool
is_brought_by by wid = starts_with nat_eq wid (bringer by ++ 95 ∷ 95 ∷ [])

-- the wIds that stand at and beneath the provision of this one, or all where it is the root's
abbrev pub wids_beneath : Option (Branch Provision) → List (List ℕ)
wids_beneath None = []
wids_beneath (Some b) = wids b

abbrev pub wids_at : Branches Provision → List ℕ → List (List ℕ)
wids_at body wid = if bytes_eq wid root_wid then all_wids body else wids_beneath (found wid body)

-- the wIds that go with an edit
abbrev pub wids_taken : Branches Provision → TextualMod → List (List ℕ)
wids_taken body (Repeal wid) = wids_at body wid
wids_taken body (SubstituteNodes wid new) = wids_at body wid
wids_taken body (Join wid second separator) = second ∷ []
wids_taken body edit = []

-- the wIds of the provisions that an edit names as those that it changes, or as the sibling that is taken in
abbrev pub named_by : TextualMod → List (List ℕ)
named_by (Repeal wid) = wid ∷ []
named_by (SubstituteNodes wid new) = wid ∷ []
named_by (SubstituteText wid spot new) = wid ∷ []
named_by (InsertNodes wid pos new) = wid ∷ []
named_by (InsertText wid at new) = wid ∷ []
named_by (Renumber pairs) = map (λ pair. pair.0) pairs
named_by (Split wid at num heading) = wid ∷ []
named_by (Join wid second separator) = wid ∷ second ∷ []

-- two provisions, neither of which stands at or beneath the other
abbrev pub are_apart : Option (Branch Provision) → Option (Branch Provision) → Bool
are_apart (Some (branch p below)) (Some (branch q under)) =
    not (holds q.wid (branch p below)) && not (holds p.wid (branch q under))
are_apart (Some b) None = false
are_apart None other = false

-- the provisions of two wIds are there, and neither stands at or beneath the other; the root is none
abbrev pub stand_apart : Branches Provision → List ℕ → List ℕ → Bool
stand_apart body v w = are_apart (provision_named v body) (provision_named w body)

-- each provision that one edit names stands apart from each that the other names
abbrev pub edits_apart : Branches Provision → TextualMod → TextualMod → Bool
edits_apart body one other = list_all (λ v. list_all (stand_apart body v) (named_by other)) (named_by one)

-- what an edit touches of the provisions that it names: their content; their num; where provisions stand at and beneath
-- them, and of themselves nothing; this and their content and num; or all that stands at and beneath them
pub data Touch : Type 0 where
  a_content : Touch
  a_num : Touch
  a_place : Touch
  of_itself : Touch
  all_beneath : Touch

abbrev pub touch_of : TextualMod → Touch
touch_of (SubstituteText wid spot new) = a_content
touch_of (InsertText wid at new) = a_content
touch_of (Renumber pairs) = a_num
touch_of (InsertNodes wid pos new) = a_place
touch_of (Split wid at num heading) = of_itself
touch_of (Join wid second separator) = of_itself
touch_of (Repeal wid) = all_beneath
touch_of (SubstituteNodes wid new) = all_beneath

-- an edit changes which provisions stand where
abbrev pub moves : Touch → Bool
moves a_content = false
moves a_num = false
moves a_place = true
moves of_itself = true
moves all_beneath = true

-- the content or num of a wId that another touches is among those that are touched with a provision
abbrev pub takes_text : Touch → Touch → Branch Provision → List ℕ → Bool
takes_text all_beneath other b wid = holds wid b
takes_text of_itself other b wid = has_wid wid b
takes_text a_place other b wid = false
takes_text a_content a_content b wid = has_wid wid b
takes_text a_content other b wid = false
takes_text a_num a_num b wid = has_wid wid b
takes_text a_num other b wid = false

-- what is touched of a provision takes in something that another touches of the provision of a wId
abbrev pub takes_in : Touch → Touch → Branch Provision → List ℕ → Bool
takes_in one other b wid = if moves one && moves other then holds wid b else takes_text one other b wid

-- two provisions, of neither of which anything is touched that is touched of the other
abbrev pub are_unmixed : Touch → Touch → Option (Branch Provision) → Option (Branch Provision) → Bool
are_unmixed one two (Some (branch p below)) (Some (branch q under)) =
    not (takes_in one two (branch p below) q.wid) && not (takes_in two one (branch q under) p.wid)
are_unmixed one two (Some b) None = false
are_unmixed one two None other = false

-- neither of two edits touches anything of a text that the other touches; the root is no provision
abbrev pub touch_apart : Branches Provision → TextualMod → TextualMod → Bool
touch_apart body one other =
    list_all (λ v. list_all (λ w. are_unmixed (touch_of one) (touch_of other) (provision_named v body)
    (provision_named w body)) (named_by other)) (named_by one)

-- a step makes of a provision what it makes of it alone, and leaves those behind it
abbrev pub LooksAtNoSibling : Step → Type 0
LooksAtNoSibling step =
    (b : Branch Provision) (rest : Branches Provision) → step b rest ≡ joined (step b no_branches) rest

-- what a step makes of a provision alone
abbrev pub made_of : Step → Option (Branch Provision) → Branches Provision
made_of step None = no_branches
made_of step (Some b) = step b no_branches
