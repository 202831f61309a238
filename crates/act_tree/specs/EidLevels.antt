-- The levels that eIds are made of: those that begin an eId, and those that go on behind the level above.
use Rattle.std.specs.Prelude.{ℕ, ◌++◌, ◌||◌, Bool, true, false, List, [], ◌∷◌, if◌then◌else◌}
use Rattle.eid_paths.specs.declared.numbering.Numbering.{Numbering}
use Rattle.eid_paths.specs.Elements.{is_throughout}
use Rattle.eid_paths.specs.Levels.{level_text}
use Rattle.act_tree.specs.Branches.{Branch, Branches, branch, no_branches, more_branches}
use Rattle.act_tree.specs.Faults.{all_owns}
use Rattle.act_tree.specs.Provisions.{Own, Provision}
use Rattle.act_tree.specs.Trees.{TreeValue}
use Rattle.act_tree.specs.Wids.{one_twice}

-- a provision begins an eId: it is a child of the root, or its element is numbered throughout
abbrev pub begins : Numbering → Bool → Own → Bool
begins numbering top own = top || is_throughout numbering own.element

-- how the level of a provision is spelled
abbrev pub own_level : Own → List ℕ
own_level own = level_text own.element own.num

-- the levels that begin an eId, at every depth; `top` says that the provisions side by side are the children of the
-- root
abbrev mutual
  pub beginning : Numbering → Bool → Branch Own → List (List ℕ)
  beginning numbering top (branch own below) =
      (if begins numbering top own then own_level own ∷ [] else []) ++ all_beginning numbering false below

  pub all_beginning : Numbering → Bool → Branches Own → List (List ℕ)
  all_beginning numbering top no_branches = []
  all_beginning numbering top (more_branches b bs) = beginning numbering top b ++ all_beginning numbering top bs

-- the level of a provision, if it begins no eId
abbrev pub going_on : Numbering → Bool → Branch Own → List (List ℕ)
going_on numbering top (branch own below) = if begins numbering top own then [] else own_level own ∷ []

-- the levels of siblings that begin no eId
abbrev pub all_going_on : Numbering → Bool → Branches Own → List (List ℕ)
all_going_on numbering top no_branches = []
all_going_on numbering top (more_branches b bs) = going_on numbering top b ++ all_going_on numbering top bs

-- the levels that begin no eId, of provisions that stand below another and not right below the root
abbrev pub levels_on : Numbering → Branches Provision → List (List ℕ)
levels_on numbering bs = all_going_on numbering false (all_owns bs)

-- somewhere two siblings that begin no eId have one level
abbrev mutual
  pub alike_inside : Numbering → Branch Own → Bool
  alike_inside numbering (branch own below) =
      one_twice (all_going_on numbering false below) || alike_beneath numbering below

  pub alike_beneath : Numbering → Branches Own → Bool
  alike_beneath numbering no_branches = false
  alike_beneath numbering (more_branches b bs) = alike_inside numbering b || alike_beneath numbering bs

-- two provisions of a tree that begin an eId have one level
abbrev pub has_beginning_twice : TreeValue → Bool
has_beginning_twice tree = one_twice (all_beginning tree.numbering true (all_owns tree.body))

-- two siblings that begin no eId have one level; the children of the root begin one each
abbrev pub has_siblings_alike : TreeValue → Bool
has_siblings_alike tree = alike_beneath tree.numbering (all_owns tree.body)

-- the levels that begin an eId in a tree
abbrev pub levels_begun : TreeValue → List (List ℕ)
levels_begun tree = all_beginning tree.numbering true (all_owns tree.body)
