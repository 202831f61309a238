use Rattle.std.proofs.Common.{◌≡◌, map, take}
use Rattle.serde_json.specs.View.{view}
use Rattle.akn_json.proofs.Printed.Values.{shown_node_data}
use Rattle.akn_json.proofs.printing.values.+value.Given as goal

abbrev pub invariant-nodes_value-loop-node : goal.invariant-nodes_value-loop-node
invariant-nodes_value-loop-node l = map view l.list.items ≡ map shown_node_data (take l.node-index l.node-items)
