-- Why no tree is built of nodes.
use Rattle.std.specs.Prelude.{ℕ, ◌≡◌, ◌++◌, ◌||◌, Bool, false, List, [], ◌∷◌, length, nat_lt, Option, Some, None, option_map, codes, if◌then◌else◌}
use Rattle.act_tree.specs.declared.build_fault.BuildFault.{BuildFault}
use Rattle.act_tree.specs.declared.build_fault.BuildFault.TheVariants.{EidTwice, TooDeep, TooManyNodes, TextTooLong}
use Rattle.act_tree.specs.declared.build_fault.BuildFail.{BuildFail}
use Rattle.act_tree.specs.declared.build_fault.BuildFail.TheVariants as fails
use Rattle.act_tree.specs.declared.cause.Cause.{Cause}
use Rattle.act_tree.specs.declared.cause.Cause.TheVariants as causes
use Rattle.eid_paths.specs.declared.numbering.Numbering.{Numbering}
use Rattle.act_tree.specs.Branches.{Branch, Branches, branch, no_branches, more_branches, heights, counts}
use Rattle.act_tree.specs.Provisions.{Own, Provision}
use Rattle.act_tree.specs.Eids.{eid_below}
use Rattle.act_tree.specs.Trees.{TreeValue}
use Rattle.act_tree.specs.Wids.{one_twice}
use Rattle.act_tree.specs.declared.limits.TheConstants.{MAX_DEPTH, MAX_TEXT_BYTES}
use Rattle.act_tree.specs.declared.limits.NodeLimit.{NodeLimit}
use Rattle.act_tree.specs.NodeLimits.{most_nodes}

-- the number of a fault
abbrev pub fault_number : BuildFault → ℕ
fault_number EidTwice = 1
fault_number TooDeep = 2
fault_number TooManyNodes = 3
fault_number TextTooLong = 4

-- the name of a fault
abbrev pub fault_name : BuildFault → List ℕ
fault_name EidTwice = codes "EidTwice"
fault_name TooDeep = codes "TooDeep"
fault_name TooManyNodes = codes "TooManyNodes"
fault_name TextTooLong = codes "TextTooLong"

-- the cause that a fault is, where a modification brought it
abbrev pub fault_cause : BuildFault → Cause
fault_cause EidTwice = causes.NumberTaken
fault_cause TooDeep = causes.TooDeep
fault_cause TooManyNodes = causes.TooManyNodes
fault_cause TextTooLong = causes.TextTooLong

-- what provisions say of themselves, without their wIds
abbrev mutual
  pub owns : Branch Provision → Branch Own
  owns (branch p below) = branch p.own (all_owns below)

  pub all_owns : Branches Provision → Branches Own
  all_owns no_branches = no_branches
  all_owns (more_branches b bs) = more_branches (owns b) (all_owns bs)

-- the eIds of provisions below the eId `above`, or right below the root where that is `None`, in the order of the text
abbrev mutual
  pub eids : Numbering → Option (List ℕ) → Branch Own → List (List ℕ)
  eids numbering above (branch own below) =
      eid_below numbering above own.element own.num
      ∷ all_eids numbering (Some (eid_below numbering above own.element own.num)) below

  pub all_eids : Numbering → Option (List ℕ) → Branches Own → List (List ℕ)
  all_eids numbering above no_branches = []
  all_eids numbering above (more_branches b bs) = eids numbering above b ++ all_eids numbering above bs

-- a heading or a content is longer than a text may be
abbrev pub is_long : Own → Bool
is_long own = nat_lt MAX_TEXT_BYTES (length own.heading) || nat_lt MAX_TEXT_BYTES (length own.content)

-- one of the provisions, at any depth, is such a one
abbrev mutual
  pub has_long : Branch Own → Bool
  has_long (branch own below) = is_long own || have_long below

  pub have_long : Branches Own → Bool
  have_long no_branches = false
  have_long (more_branches b bs) = has_long b || have_long bs

-- the first of the four that holds of the text below a root: two provisions have one eId, the text is deeper than 12
-- levels, it has more provisions than its limit says, a heading or content is too long
abbrev pub first_fault : Numbering → NodeLimit → Branches Own → Option BuildFault
first_fault numbering limit body =
    if one_twice (all_eids numbering None body) then Some EidTwice
    else (if nat_lt MAX_DEPTH (heights body) then Some TooDeep
    else (if nat_lt (most_nodes limit) (counts body) then Some TooManyNodes
    else (if have_long body then Some TextTooLong else None)))

-- it failed by this fault, or for want of memory
abbrev pub FailsBy : Option BuildFault → BuildFail → Type 0
FailsBy fault (fails.Fault f) = fault ≡ Some f
FailsBy fault fails.Memory = Unit {0}

-- the first cause for which a tree is not well-formed
abbrev pub first_cause : TreeValue → Option Cause
first_cause t = option_map fault_cause (first_fault t.numbering t.limit (all_owns t.body))

-- the eIds of the provisions of a tree, in the order of the text
abbrev pub eids_of : TreeValue → List (List ℕ)
eids_of t = all_eids t.numbering None (all_owns t.body)
