-- How deep provisions stand.
use Rattle.std.specs.Prelude.{ℕ, zero, suc, ◌+◌, ◌==◌, List, Option, if◌then◌else◌}
use Rattle.std.specs.Str.{bytes_eq}
use Rattle.act_tree.specs.Arena.{Laid, above_in}
use Rattle.act_tree.specs.Branches.{Branch, Branches, branch, no_branches, more_branches}
use Rattle.act_tree.specs.Changes.{holds}
use Rattle.act_tree.specs.Provisions.{Provision}

-- how many provisions stand on the way from a root down to the one of this wId, itself included; none where there is none
abbrev mutual
  pub depth_in : List ℕ → Branch Provision → ℕ
  depth_in wid (branch p below) = if bytes_eq p.wid wid then 1 else depth_of wid below + 1

  pub depth_of : List ℕ → Branches Provision → ℕ
  depth_of wid no_branches = 0
  depth_of wid (more_branches b bs) = if holds wid b then depth_in wid b else depth_of wid bs

-- how many numbers stand on the way up from one, itself included and the root not counted, in so many steps
abbrev pub steps_up : ℕ → (ℕ → Option Laid) → ℕ → ℕ
steps_up zero at i = 0
steps_up (suc steps) at i = if i == 0 then 0 else steps_up steps at (above_in (at i)) + 1
