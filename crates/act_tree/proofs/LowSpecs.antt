-- How high nodes that are brought are, one by one and side by side.
use Rattle.std.proofs.Common.{◌≡◌, ℕ, ◌+◌, ◌≤◌, List, [], ◌∷◌, ◌++◌, arith}
use Rattle.act_tree.specs.declared.node_spec.NodeSpec.{NodeSpec}
use Rattle.act_tree.specs.Branches.{Branch, branches_of, height, heights, tallest, heights-branches_of}
use Rattle.act_tree.specs.Specs.{spec_view, specs_view}

-- branches side by side are as high as the tallest
pub heights_listed : {L : Type 0} → (bs : List (Branch L)) → heights (branches_of bs) ≡ tallest bs
heights_listed bs = heights-branches_of bs

-- nodes with one more behind them
pub one_more_low : (most : ℕ) (ns : List NodeSpec) (n : NodeSpec) → tallest (specs_view ns) ≤ most → height (spec_view n) ≤ most → tallest (specs_view (ns ++ n ∷ [])) ≤ most
one_more_low most [] n low one = omega (arith, one)
one_more_low most (m ∷ ns) n low one = omega (arith, low, one, one_more_low most ns n (omega (arith, low)) one)
