use Rattle.std.proofs.Common.{◌≡◌, ◌++◌, drop}
use Rattle.json.specs.Tree.{items_tokens}
use Rattle.serde_json.specs.Written.{items_outline}
use Rattle.act_tree.specs.Branches.{branches_of}
use Rattle.akn_json.specs.Printing.Answers.{nodes_data}
use Rattle.law_register.specs.Answer.ShownNodes.{shown_list}
use Rattle.akn_json.proofs.printing.provisions.+provision.Given as goal

abbrev pub invariant-put_nodes-loop-node : goal.invariant-put_nodes-loop-node
invariant-put_nodes-loop-node l =
    (l.out.tokens ++ items_tokens (items_outline (nodes_data (branches_of (shown_list (drop l.node-index l.node-items)))))
    ≡ l.initial.out.tokens ++ items_tokens (items_outline (nodes_data (branches_of (shown_list l.node-items)))))
    × (l.out.before ≡ l.initial.out.before)
