-- What keeps the limits of wIds and of refs.
use Rattle.std.specs.Prelude.{ℕ, nat_le, nat_lt, Bool, true, ◌&&◌, List, length}
use Rattle.act_tree.specs.Branches.{Branch, Branches, branch, no_branches, more_branches}
use Rattle.act_tree.specs.Provisions.{Own}
use Rattle.act_tree.specs.declared.limits.TheConstants.{MAX_REFS, MAX_WID_BYTES}

-- a wId is not empty, and no longer than a wId may be
abbrev pub is_wid : List ℕ → Bool
is_wid wid = nat_lt 0 (length wid) && nat_le (length wid) MAX_WID_BYTES

-- a node, and likewise nodes side by side: at every depth each has no more refs than a node may have
abbrev mutual
  pub has_few_refs : Branch Own → Bool
  has_few_refs (branch own below) = nat_le (length own.refs) MAX_REFS && have_few_refs below

  pub have_few_refs : Branches Own → Bool
  have_few_refs no_branches = true
  have_few_refs (more_branches b bs) = has_few_refs b && have_few_refs bs
