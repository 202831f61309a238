use Rattle.std.proofs.Common.{◌≡◌, ◌++◌, drop}
use Rattle.json.specs.Tree.{items_tokens}
use Rattle.serde_json.specs.Written.{items_outline}
use Rattle.act_tree.specs.Branches.{branches_of}
use Rattle.act_tree.specs.Specs.{specs_view}
use Rattle.akn_json.specs.Printing.Nodes.{all_brought_data}
use Rattle.akn_json.proofs.printing.nodes.+brought.Given as goal

abbrev pub invariant-put_nodes-loop-node : goal.invariant-put_nodes-loop-node
invariant-put_nodes-loop-node l =
    (l.out.tokens ++ items_tokens (items_outline (all_brought_data (branches_of (specs_view (drop l.node-index l.node-items)))))
    ≡ l.initial.out.tokens ++ items_tokens (items_outline (all_brought_data (branches_of (specs_view l.node-items)))))
    × (l.out.before ≡ l.initial.out.before)
