use Rattle.std.proofs.Common.{◌∙◌, ap, option_map}
use Rattle.act_tree.specs.Arena.{branch_from}
use Rattle.act_tree.specs.Seen.{has_node, tree_view, provision_at, branch_at}
use Rattle.act_tree.specs.Slots.{at, number, size}
use Rattle.act_tree.proofs.NextNodes.{next_sibling, next_node, next_other}
use Rattle.act_tree.proofs.SlotsOfNodes.{node_within}
use Rattle.act_tree.proofs.TakingAway.{may_be_taken}
use Rattle.act_tree.proofs.tree.Tree.next.Goals as goal

pub next-requires-clause-within : goal.next-requires-clause-within
next-requires-clause-within c = node_within c.args.self.now c.args.id c.requires.node

pub next-requires-clause-above : goal.next-requires-clause-above
unfolding has_node
next-requires-clause-above c = (may_be_taken c.args.self.now.arena c.args.id c.args.self.now.whole c.requires.node c.requires.provision).1.0

pub returns-clause-branch : goal.returns-clause-branch
unfolding has_node tree_view provision_at branch_at
returns-clause-branch c =
    let arena = c.args.self.now.arena in
    ap (option_map (branch_from (size arena) (at arena))) c.next.ensures
    ∙ next_sibling (at arena) (number arena) (size arena) c.args.self.now.whole c.args.id c.requires.node c.requires.provision

pub returns-clause-node : goal.returns-clause-node
unfolding has_node
returns-clause-node c =
    let arena = c.args.self.now.arena in
    next_node (at arena) (number arena) (size arena) c.args.self.now.whole c.args.id c.requires.node c.requires.provision c.next.result c.next.ensures

pub returns-clause-provision : goal.returns-clause-provision
unfolding has_node
returns-clause-provision c =
    let arena = c.args.self.now.arena in
    next_other (at arena) (number arena) (size arena) c.args.self.now.whole c.args.id c.requires.node c.requires.provision c.next.result c.next.ensures
