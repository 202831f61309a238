-- What is nested in nodes is lower than they are.
use Rattle.std.specs.Prelude.{◌+◌, ◌≤◌, List, [], ◌∷◌, max}
use Rattle.std.proofs.Common.{arith}
use denote.Param.Weighed.{most}
use Rattle.act_tree.specs.Branches.{tallest, heights-branches_of}
use Rattle.act_tree.specs.Specs.{specs_view}
use Rattle.act_tree.specs.declared.node_spec.NodeSpec.{NodeSpec}

pub most_le-tallest : (ns : List NodeSpec) → most (λ n. max (tallest n.children + 1) 0) ns ≤ tallest (specs_view ns)
most_le-tallest [] = omega arith
most_le-tallest (n ∷ ns) = omega (arith, heights-branches_of n.children, most_le-tallest ns)
