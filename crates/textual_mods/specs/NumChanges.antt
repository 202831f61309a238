-- What can be held against a renumbering, told before it is made: a provision that gets a num has then the level of
-- another.
use Rattle.std.specs.Prelude.{ℕ, ◌≡◌, ◌++◌, ◌==◌, ◌&&◌, ◌||◌, Bool, true, false, not, List, [], ◌∷◌, map, Option, Some, None, slice_get, if◌then◌else◌}
use Rattle.std.specs.List.{list_any}
use Rattle.std.specs.Str.{bytes_eq}
use Rattle.eid_paths.specs.declared.numbering.Numbering.{Numbering}
use Rattle.eid_paths.specs.Elements.{is_throughout}
use Rattle.eid_paths.specs.Levels.{level_text}
use Rattle.act_tree.specs.declared.build_fault.BuildFault.{BuildFault}
use Rattle.act_tree.specs.declared.build_fault.BuildFault.TheVariants.{EidTwice}
use Rattle.act_tree.specs.declared.tree.Tree.{Tree}
use Rattle.act_tree.specs.Branches.{Branch, Branches, branch, no_branches, more_branches}
use Rattle.act_tree.specs.Changes.{num_given, root_wid}
use Rattle.act_tree.specs.EidLevels.{begins, levels_begun, levels_on}
use Rattle.act_tree.specs.Provisions.{Provision}
use Rattle.act_tree.specs.Seen.{tree_view, has_node, provision_at, children_at, below_at}
use Rattle.act_tree.specs.Trees.{TreeValue}
use Rattle.act_tree.specs.Wids.{is_among}
use Rattle.textual_mods.specs.declared.num_changes.NumChange.{NumChange}

-- a provision, and the wId of the node beneath which no other may have its level: the root, where it begins an eId, or
-- else the one right above it
pub record Placed : Type 0 where
  pub under : List ℕ
  pub provision : Provision

-- the provisions at every depth, in the order of the text; `top` says that those side by side are the children of the
-- root, and `above` is the wId of the node right above them
abbrev mutual
  pub placed : Numbering → Bool → List ℕ → Branch Provision → List Placed
  placed numbering top above (branch p below) =
      record { under = if begins numbering top p.own then root_wid else above; provision = p }
      ∷ all_placed numbering false p.wid below

  pub all_placed : Numbering → Bool → List ℕ → Branches Provision → List Placed
  all_placed numbering top above no_branches = []
  all_placed numbering top above (more_branches b bs) =
      placed numbering top above b ++ all_placed numbering top above bs

abbrev pub placed_in : TreeValue → List Placed
placed_in tree = all_placed tree.numbering true root_wid tree.body

-- the level of a provision with the nums that pairs of a wId and a num give
abbrev pub level_with : List (List ℕ × List ℕ) → Provision → List ℕ
level_with pairs p = level_text p.own.element (num_given pairs p.wid p.own.num)

-- two provisions have one level then, and may not
abbrev pub collide : List (List ℕ × List ℕ) → Placed → Placed → Bool
collide pairs one other =
    not (bytes_eq one.provision.wid other.provision.wid)
    && (bytes_eq other.under one.under
    && bytes_eq (level_with pairs one.provision) (level_with pairs other.provision))

-- a pair gives the provision a num
abbrev pub is_renumbered : List (List ℕ × List ℕ) → Provision → Bool
is_renumbered pairs p = is_among p.wid (map (λ pair. pair.0) pairs)

-- a num that pairs give is taken
abbrev pub num_taken : TreeValue → List (List ℕ × List ℕ) → Bool
num_taken tree pairs =
    list_any (λ one. is_renumbered pairs one.provision && list_any (collide pairs one) (placed_in tree))
    (placed_in tree)

-- the first fault of a tree with the nums that pairs give
abbrev pub renumbering_fault : TreeValue → List (List ℕ × List ℕ) → Option BuildFault
renumbering_fault tree pairs = if num_taken tree pairs then Some EidTwice else None

-- the num that pairs of a node and a num give to a node, by the first of them that names it, or else the one that it
-- had
abbrev pub num_by_node : List (ℕ × List ℕ) → ℕ → List ℕ → List ℕ
num_by_node [] id num = num
num_by_node (pair ∷ named) id num = if pair.0 == id then pair.1 else num_by_node named id num

-- a node of a tree, and the one beneath which no other may have its level
pub record IsUnder (t : Tree) (id under : ℕ) : Type 0 where
  pub node : has_node t under ≡ true
  pub begun : is_throughout (tree_view t).numbering (provision_at t id).own.element ≡ true → under ≡ 0
  pub child : is_throughout (tree_view t).numbering (provision_at t id).own.element ≡ false
      → (place : ℕ) × (slice_get (children_at t under) place ≡ Some id)

-- how the num of a node changes by pairs of a node and a num
pub record IsChange (t : Tree) (named : List (ℕ × List ℕ)) (change : NumChange) : Type 0 where
  pub node : has_node t change.id ≡ true
  pub provision : change.id ≡ 0 → ⊥
  pub under : IsUnder t change.id change.under
  pub element : change.element ≡ (provision_at t change.id).own.element
  pub before : change.before ≡ (provision_at t change.id).own.num
  pub num : change.num ≡ num_by_node named change.id change.before

-- the level that a node gets, and the one that it gives up
abbrev pub level_given : NumChange → List ℕ
level_given change = level_text change.element change.num

abbrev pub level_before : NumChange → List ℕ
level_before change = level_text change.element change.before

-- another node gets the level, too, that a node gets
abbrev pub gets_too : NumChange → NumChange → Bool
gets_too change other =
    not (other.id == change.id)
    && (other.under == change.under && bytes_eq (level_given change) (level_given other))

-- a node gives up the level that a node gets
abbrev pub gives_up : NumChange → NumChange → Bool
gives_up change other = other.under == change.under && bytes_eq (level_given change) (level_before other)

-- the levels that may stand once beneath a node
abbrev pub levels_under : Tree → ℕ → List (List ℕ)
levels_under t id =
    if id == 0 then levels_begun (tree_view t) else levels_on (tree_view t).numbering (below_at t id)

-- a node gets the level of another, by one of these changes or as it stands and none of them gives it up
abbrev pub is_taken : Tree → List NumChange → NumChange → Bool
is_taken t changes change =
    list_any (gets_too change) changes
    || (is_among (level_given change) (levels_under t change.under) && not (list_any (gives_up change) changes))
