-- What is read so far, with what the rest gives behind it, is what all give. Each call goes over a value that nests less deep.
use Rattle.std.proofs.Common.{◌≡◌, ◌+◌, ◌*◌, drop}
use Rattle.serde_json.specs.Data.{depth, items_depth}
use Rattle.akn_json.specs.Reading.Nodes.{each_node}
use Rattle.akn_json.specs.Reading.Values.{seen, items_seen}
use Rattle.akn_json.proofs.Forms.{with_front}
use Rattle.akn_json.proofs.reading.nodes.+node.Given as goal

abbrev pub decreases-node : goal.decreases-node
decreases-node l = 2 * depth (seen l.value.now)

abbrev pub decreases-nodes : goal.decreases-nodes
decreases-nodes l = 2 * depth (seen l.value.now) + 1

abbrev pub decreases-each_node : goal.decreases-each_node
decreases-each_node l = 2 * items_depth (items_seen l.values.now.items) + 1

abbrev pub invariant-each_node-loop-value : goal.invariant-each_node-loop-value
invariant-each_node-loop-value l =
    with_front l.nodes (each_node (items_seen (drop l.value-index l.value-items))) ≡ each_node (items_seen l.value-items)
