-- The sum so far and the nodes left make what the first sum and all nodes make.
use Rattle.std.proofs.Common.{◌≡◌, ◌+◌, ◌≤◌, drop, min}
use Rattle.act_tree.specs.Branches.{branches_of}
use Rattle.act_tree.specs.NodeSizes.{nodes_size}
use Rattle.act_tree.specs.Specs.{specs_view}
use Rattle.act_tree.proofs.node_spec.+sizes.Given as goal

abbrev pub invariant-Nodes::plus_size-loop-node : goal.invariant-Nodes::plus_size-loop-node
invariant-Nodes::plus_size-loop-node l = record {
  sum : min (l.sum + nodes_size (branches_of (specs_view (drop l.node-index l.node-items)))) 18446744073709551615
      ≡ min (l.size + (2 + nodes_size (branches_of (specs_view l.node-items)))) 18446744073709551615;
  fits : l.sum ≤ 18446744073709551615;
}
