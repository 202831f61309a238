-- Renumbering: provisions get other nums, all at once.
use Rattle.std.specs.Prelude.{ℕ, List, Result, Ok, Err, is_some, if◌then◌else◌}
use Rattle.std.specs.List.{list_all}
use Rattle.act_tree.specs.declared.cause.Cause.{Cause}
use Rattle.act_tree.specs.declared.cause.Cause.TheVariants.{TargetMissing}
use Rattle.act_tree.specs.Branches.{Branches}
use Rattle.act_tree.specs.Provisions.{Provision}
use Rattle.act_tree.specs.Changes.{renumbered}
use Rattle.textual_mods.specs.Targets.{provision_named}

-- each provision that a pair names gets the num of the pair
abbrev pub nums_given : List (List ℕ × List ℕ) → Branches Provision → Result (Branches Provision) Cause
nums_given pairs body =
    if list_all (λ pair. is_some (provision_named pair.0 body)) pairs then Ok (renumbered pairs body)
    else Err TargetMissing
