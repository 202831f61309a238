-- The depth falls; what is written so far is what those so far spell.
use Rattle.std.proofs.Common.{◌≡◌, ◌++◌, ◌+◌, ◌*◌, take}
use Rattle.std.specs.Prelude.{All}
use Rattle.std.specs.List.{flat_map}
use Rattle.act_tree.specs.Specs.{spec_view, specs_view}
use Rattle.entry_codec.specs.Typed.{IsNodeTo}
use Rattle.entry_codec.specs.Nodes.{node}
use Rattle.entry_codec.proofs.writing.nodes.+putting.Given as goal

abbrev pub decreases-put_each_node : goal.decreases-put_each_node
decreases-put_each_node l = 3 * l.depth + 2

abbrev pub decreases-put_node : goal.decreases-put_node
decreases-put_node l = 3 * l.depth + 1

abbrev pub decreases-put_nodes : goal.decreases-put_nodes
decreases-put_nodes l = 3 * l.depth

abbrev pub invariant-put_each_node-loop-node : goal.invariant-put_each_node-loop-node
invariant-put_each_node-loop-node l = record {
  bytes : l.out.items ≡ l.fn.out.items ++ flat_map (node l.depth).spell (specs_view (take l.node-index l.nodes));
  typed : All (λ n. IsNodeTo l.depth (spec_view n)) (take l.node-index l.nodes);
}
