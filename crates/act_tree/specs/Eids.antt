-- eIds: the name of a provision by its place, in one expression of the act.
use Rattle.std.specs.Prelude.{ℕ, List, ◌∷◌, ◌++◌, Option, Some, None, if◌then◌else◌}
use Rattle.eid_paths.specs.declared.element.Element.{Element}
use Rattle.eid_paths.specs.declared.numbering.Numbering.{Numbering}
use Rattle.eid_paths.specs.Elements.{is_throughout}
use Rattle.eid_paths.specs.Levels.{level_text}
use Rattle.act_tree.specs.Branches.{Branch, Branches, branch, no_branches, more_branches}
use Rattle.act_tree.specs.Provisions.{Own, Provision}

-- the eId of a node below one of that eId, or right below the root: its level alone where it is a child of the
-- root or its element is numbered throughout, and else behind the eId above and `__`
abbrev pub eid_below : Numbering → Option (List ℕ) → Element → List ℕ → List ℕ
eid_below numbering None element num = level_text element num
eid_below numbering (Some above) element num =
    if is_throughout numbering element then level_text element num else above ++ 95 ∷ 95 ∷ level_text element num

-- the provisions of an act as enacted: the wId of each is the eId that it has there
abbrev mutual
  pub enacted : Numbering → Option (List ℕ) → Branch Own → Branch Provision
  enacted numbering above (branch own below) =
      branch (record { wid = eid_below numbering above own.element own.num; own = own })
      (all_enacted numbering (Some (eid_below numbering above own.element own.num)) below)

  pub all_enacted : Numbering → Option (List ℕ) → Branches Own → Branches Provision
  all_enacted numbering above no_branches = no_branches
  all_enacted numbering above (more_branches b bs) =
      more_branches (enacted numbering above b) (all_enacted numbering above bs)
