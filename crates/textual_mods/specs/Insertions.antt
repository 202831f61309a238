-- What can be held against an insertion, told before it is made: by the levels that are brought, and by how deep and how
-- many the provisions would be.
use Rattle.std.specs.Prelude.{ℕ, ◌+◌, ◌||◌, ◌&&◌, Bool, true, false, not, List, [], max, nat_lt, Option, Some, None, if◌then◌else◌}
use Rattle.std.specs.List.{list_any}
use Rattle.std.specs.Str.{bytes_eq}
use Rattle.eid_paths.specs.declared.element.Element.{Element}
use Rattle.eid_paths.specs.declared.numbering.Numbering.{Numbering}
use Rattle.eid_paths.specs.Elements.{is_throughout}
use Rattle.eid_paths.specs.Levels.{level_text}
use Rattle.eid_paths.specs.Nums.{is_num}
use Rattle.act_tree.specs.declared.build_fault.BuildFault.{BuildFault}
use Rattle.act_tree.specs.declared.build_fault.BuildFault.TheVariants.{EidTwice, TooDeep, TooManyNodes, TextTooLong}
use Rattle.act_tree.specs.declared.limits.TheConstants.{MAX_DEPTH}
use Rattle.act_tree.specs.declared.limits.NodeLimit.{NodeLimit}
use Rattle.act_tree.specs.NodeLimits.{most_nodes}
use Rattle.act_tree.specs.declared.tree.Tree.{Tree}
use Rattle.act_tree.specs.Branches.{Branch, Branches, branch, no_branches, more_branches, heights, counts}
use Rattle.act_tree.specs.Changes.{root_wid}
use Rattle.act_tree.specs.EidLevels.{all_beginning, all_going_on}
use Rattle.act_tree.specs.Faults.{all_owns}
use Rattle.act_tree.specs.Provisions.{Own, Provision}
use Rattle.act_tree.specs.Seen.{tree_view, provision_at, below_at}
use Rattle.act_tree.specs.Wids.{is_among, one_twice}

-- one of these texts is among others
abbrev pub one_among : List (List ℕ) → List (List ℕ) → Bool
one_among texts others = list_any (λ text. is_among text others) texts

-- the node is the root, whose wId no other has
abbrev pub is_root : Tree → ℕ → Bool
is_root t i = bytes_eq (provision_at t i).wid root_wid

-- of provisions that are brought, two begin an eId by one level, or one does by a level by which one of the text does;
-- `top` says that they come to stand right below the root
abbrev pub begins_again : Numbering → Bool → Branches Own → Branches Own → Bool
begins_again numbering top new body =
    one_twice (all_beginning numbering top new)
    || one_among (all_beginning numbering top new) (all_beginning numbering true body)

-- a provision that is brought begins no eId, and neither does a sibling that has its level
abbrev pub goes_on_again : Numbering → Bool → Branches Own → Branches Own → Bool
goes_on_again numbering top new siblings =
    one_among (all_going_on numbering top new) (all_going_on numbering top siblings)

-- the same, told node by node: one of the levels that begin an eId is among others
abbrev mutual
  pub begun_among : List (List ℕ) → Numbering → Bool → Branch Own → Bool
  begun_among levels numbering top (branch own below) =
      ((top || is_throughout numbering own.element) && is_among (level_text own.element own.num) levels)
      || all_begun_among levels numbering false below

  pub all_begun_among : List (List ℕ) → Numbering → Bool → Branches Own → Bool
  all_begun_among levels numbering top no_branches = false
  all_begun_among levels numbering top (more_branches b bs) =
      begun_among levels numbering top b || all_begun_among levels numbering top bs

-- and one of the levels that begin none, of provisions that are no children of the root, is
abbrev pub on_among : List (List ℕ) → Numbering → Branches Own → Bool
on_among levels numbering no_branches = false
on_among levels numbering (more_branches (branch own below) bs) =
    (not (is_throughout numbering own.element) && is_among (level_text own.element own.num) levels)
    || on_among levels numbering bs

-- a number of provisions that are brought among siblings in a text is taken
abbrev pub taken_among : Numbering → Bool → Branches Own → Branches Own → Branches Own → Bool
taken_among numbering top new body siblings =
    begins_again numbering top new body || goes_on_again numbering top new siblings

-- the same of provisions that are brought among the children of a node
abbrev pub number_taken : Tree → ℕ → Branches Own → Bool
number_taken t parent new =
    taken_among (tree_view t).numbering (is_root t parent) new (all_owns (tree_view t).body)
    (all_owns (below_at t parent))

-- how high provisions are that have others of this height beneath each that has the wId
abbrev mutual
  pub height_over : List ℕ → ℕ → Branch Provision → ℕ
  height_over wid high (branch p below) =
      max (if bytes_eq p.wid wid then high else 0) (heights_over wid high below) + 1

  pub heights_over : List ℕ → ℕ → Branches Provision → ℕ
  heights_over wid high no_branches = 0
  heights_over wid high (more_branches b bs) = max (height_over wid high b) (heights_over wid high bs)

-- the same, where the wId may be the root's
abbrev pub height_with : List ℕ → ℕ → Branches Provision → ℕ
height_with wid high body = if bytes_eq wid root_wid then max (heights body) high else heights_over wid high body

-- the first fault of a text of a limit with provisions that are brought among these, the children of the one of a wId
abbrev pub fault_among : Numbering → NodeLimit → Branches Provision → List ℕ → Branches Provision → Branches Own → Option BuildFault
fault_among numbering limit body wid siblings new =
    if taken_among numbering (bytes_eq wid root_wid) new (all_owns body) (all_owns siblings) then Some EidTwice
    else (if nat_lt MAX_DEPTH (height_with wid (heights new) body) then Some TooDeep
    else (if nat_lt (most_nodes limit) (counts body + counts new) then Some TooManyNodes else None))

-- the first fault of a tree with provisions that are brought among the children of a node
abbrev pub insertion_fault : Tree → ℕ → Branches Own → Option BuildFault
insertion_fault t parent new =
    fault_among (tree_view t).numbering (tree_view t).limit (tree_view t).body (provision_at t parent).wid (below_at t parent) new

-- the num of each provision that is brought keeps the rule of nums
abbrev pub have_nums : Branches Own → Bool
have_nums no_branches = true
have_nums (more_branches (branch own below) bs) = is_num own.num && (have_nums below && have_nums bs)

-- one provision that is brought, which says no more than its element and num
abbrev pub one_alone : Element → List ℕ → Branches Own
one_alone element num =
    more_branches (branch
    (record { element = element; num = num; heading = []; content = []; refs = [] })
    no_branches) no_branches

-- the first fault of a tree with a split: a second part of this element and num stands below the parent, too, and a text
-- that is written may be too long
abbrev pub split_fault : Tree → ℕ → Element → List ℕ → Bool → Option BuildFault
split_fault t parent element num long =
    if number_taken t parent (one_alone element num) then Some EidTwice
    else (if nat_lt (most_nodes (tree_view t).limit) (counts (tree_view t).body + 1) then Some TooManyNodes
    else (if long then Some TextTooLong else None))
