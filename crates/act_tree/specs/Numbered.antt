-- Provisions whose nums keep the rule of nums.
use Rattle.std.specs.Prelude.{Bool, true, ◌&&◌}
use Rattle.eid_paths.specs.Nums.{is_num}
use Rattle.act_tree.specs.Branches.{Branch, Branches, branch, no_branches, more_branches}
use Rattle.act_tree.specs.Provisions.{Provision}

-- the num of each provision keeps the rule of nums
abbrev mutual
  pub is_numbered : Branch Provision → Bool
  is_numbered (branch p below) = is_num p.own.num && are_numbered below

  pub are_numbered : Branches Provision → Bool
  are_numbered no_branches = true
  are_numbered (more_branches b bs) = is_numbered b && are_numbered bs
