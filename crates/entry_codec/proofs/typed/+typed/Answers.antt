use Rattle.std.proofs.Common.{arith}
use Rattle.act_tree.specs.Specs.{spec_view}
use Rattle.act_tree.specs.declared.node_spec.NodeSpec.{NodeSpec}
use Rattle.entry_codec.specs.Typed.{IsNode}
use Rattle.entry_codec.proofs.TypedParts.{more_typed, nodes_typed}
use Rattle.entry_codec.proofs.typed.+typed.Goals as goal

pub nodes_are_typed-loop-one-preserved : goal.nodes_are_typed-loop-one-preserved
nodes_are_typed-loop-one-preserved t c =
    let l = c.loop-one in
    more_typed (λ (n : NodeSpec). IsNode (spec_view n)) c.deref-one-items.result.now l.one-index c.one-item.result c.loop-one-test.true
    c.one-item.is l.invariant c.node_is_typed.ensures

pub nodes_are_typed-returns-clause-typed : goal.nodes_are_typed-returns-clause-typed
nodes_are_typed-returns-clause-typed t c =
    let over = c.loop-one-test.false in
    nodes_typed c.args.nodes.now _ c.deref-one-items.result.now c.loop-one.one-index c.nodes.view_is
    c.deref-one-items.ensures.value (omega (arith, over)) c.loop-one.invariant
