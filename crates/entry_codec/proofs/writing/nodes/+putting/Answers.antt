use Rattle.std.proofs.Common.{sym, ◌∙◌, refl}
use Rattle.act_tree.specs.Specs.{own_of, spec_view}
use Rattle.act_tree.specs.declared.node_spec.NodeSpec.{NodeSpec}
use Rattle.entry_codec.specs.Nodes.{node}
use Rattle.entry_codec.specs.Typed.{IsNodeTo}
use Rattle.entry_codec.proofs.TypedParts.{on_ok, none_typed, all_typed, more_nodes, more_typed}
use Rattle.entry_codec.proofs.Depths.{node_spelled, none_spelled, list_spelled}
use Rattle.entry_codec.proofs.writing.nodes.+putting.Goals as goal

pub put_node-returns-clause-bytes : goal.put_node-returns-clause-bytes
put_node-returns-clause-bytes t c =
    node_spelled c.args.depth (own_of c.args.node.now) c.args.node.now.children _ _ _ c.in_ok-put_own.ensures.bytes c.in_ok-put_nodes.ensures.bytes

pub put_node-returns-clause-typed : goal.put_node-returns-clause-typed
put_node-returns-clause-typed t c = λ low. (c.in_ok-put_own.ensures.typed, c.in_ok-put_nodes.ensures.typed low)

pub put_nodes-returns-then-depth-eq0-clause-bytes : goal.put_nodes-returns-then-depth-eq0-clause-bytes
put_nodes-returns-then-depth-eq0-clause-bytes t c = rw (none_spelled c.args.depth c.args.nodes.now c.if-depth-eq0.true) c.put_number16.ensures.bytes

pub put_nodes-returns-then-depth-eq0-clause-typed : goal.put_nodes-returns-then-depth-eq0-clause-typed
put_nodes-returns-then-depth-eq0-clause-typed t c =
    on_ok c.put_number16.result _ _ (λ small. none_typed c.args.depth c.args.nodes.now c.if-depth-eq0.true) c.put_number16.ensures.typed

pub put_nodes-returns-clause-bytes : goal.put_nodes-returns-clause-bytes
put_nodes-returns-clause-bytes t c =
    list_spelled c.args.depth c.if-depth-eq0.false _ _ _ _ _ _ _ c.nodes.view_is c.as_slice.ensures.value
    (c.len.ensures ∙ sym c.as_slice.ensures.len) c.in_ok-put_count.ensures c.in_ok-put_each_node.ensures.bytes

pub put_nodes-returns-clause-typed : goal.put_nodes-returns-clause-typed
put_nodes-returns-clause-typed t c =
    all_typed c.args.depth c.if-depth-eq0.false _ _ _ c.nodes.view_is c.as_slice.ensures.value _ refl c.in_ok-put_each_node.ensures.typed

pub put_each_node-loop-node-preserved : goal.put_each_node-loop-node-preserved
put_each_node-loop-node-preserved t c =
    let l = c.loop-node in
    record {
      bytes = more_nodes (node c.args.depth).spell c.args.nodes.now l.node-index c.node-item.result _ _ _ c.loop-node-test.true c.node-item.is l.invariant.bytes c.in_ok-put_node.ensures.bytes;
      typed = more_typed (λ (n : NodeSpec). IsNodeTo c.args.depth (spec_view n)) c.args.nodes.now l.node-index c.node-item.result c.loop-node-test.true c.node-item.is l.invariant.typed c.in_ok-put_node.ensures.typed;
    }
