-- Nodes without wIds, as a clause sees them.
use Rattle.std.specs.Prelude.{List, map}
use Rattle.act_tree.specs.Branches.{Branch, branch, branches_of}
use Rattle.act_tree.specs.Provisions.{Own}
use Rattle.act_tree.specs.declared.node_spec.NodeSpec.{NodeSpec}

-- what a node that is brought says of itself
abbrev pub own_of : NodeSpec → Own
own_of n = record { element = n.element; num = n.num; heading = n.heading; content = n.content; refs = n.refs }

-- a node that is brought, with all beneath it
abbrev pub spec_view : NodeSpec → Branch Own
spec_view n = branch (own_of n) (branches_of n.children)

-- nodes that are brought, side by side
abbrev pub specs_view : List NodeSpec → List (Branch Own)
specs_view ns = map spec_view ns
