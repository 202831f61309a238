-- The provisions that an edit names.
use Rattle.std.specs.Prelude.{ℕ, List, Option, Some, None, length, if◌then◌else◌}
use Rattle.std.specs.Str.{bytes_eq}
use Rattle.act_tree.specs.Branches.{Branch, Branches, branch, no_branches, listed}
use Rattle.act_tree.specs.Provisions.{Provision}
use Rattle.act_tree.specs.Changes.{found, root_wid}

-- the provision of this wId, with all beneath it; the root is none
abbrev pub provision_named : List ℕ → Branches Provision → Option (Branch Provision)
provision_named wid body = if bytes_eq wid root_wid then None else found wid body

-- what stands beneath a provision
abbrev pub below : Option (Branch Provision) → Branches Provision
below (Some (branch p under)) = under
below None = no_branches

-- how many children the provision of this wId has, or the root where it is the root's
abbrev pub children_named : List ℕ → Branches Provision → ℕ
children_named wid body = length (listed (if bytes_eq wid root_wid then body else below (found wid body)))
