use Rattle.std.proofs.Common.{◌∙◌, ap, arith, map}
use Rattle.std.proofs.lemmas.List.{take_all}
use Rattle.serde_json.specs.Data.{array}
use Rattle.serde_json.specs.View.{items_of, view}
use Rattle.serde_json.proofs.Views.{view-Array}
use Rattle.act_tree.specs.Branches.{branches_of}
use Rattle.akn_json.specs.Printing.Answers.{nodes_data}
use Rattle.law_register.specs.Answer.ShownNodes.{shown_list}
use Rattle.akn_json.proofs.Printed.Values.{shown_node_data, nodes_data-shown_list, more_values}
use Rattle.akn_json.proofs.printing.values.+value.Goals as goal

pub nodes_value-returns-clause-value : goal.nodes_value-returns-clause-value
nodes_value-returns-clause-value t c =
    view-Array _ ∙ ap (λ vs. array (items_of vs)) (c.loop-node.invariant ∙ ap (map shown_node_data) (take_all _ _ (omega arith)))
    ∙ ap array (nodes_data-shown_list _)
    ∙ ap (λ ns. array (nodes_data (branches_of ns))) (ap shown_list c.deref-node-items.ensures.value ∙ c.nodes.view_is)

pub nodes_value-loop-node-preserved : goal.nodes_value-loop-node-preserved
nodes_value-loop-node-preserved t c =
    ap (map view) (c.in_ok-push.ensures.items)
    ∙ more_values c.loop-node.list.items c.in_ok-node_value.field-0 c.deref-node-items.result.now c.loop-node.node-index c.node-item.result
    (omega arith) c.node-item.is c.in_ok-node_value.ensures c.loop-node.invariant
