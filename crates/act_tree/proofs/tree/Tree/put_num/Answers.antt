use Rattle.std.proofs.Common.{ap}
use Rattle.act_tree.specs.Seen.{has_node, tree_view, provision_at}
use Rattle.act_tree.specs.Trees.{TreeValue}
use Rattle.act_tree.proofs.Renumbering.{num_put}
use Rattle.act_tree.proofs.SlotsOfNodes.{node_within}
use Rattle.act_tree.specs.declared.limits.TheConstants.{MAX_DEPTH}
use Rattle.act_tree.proofs.LowTexts.{still_low, renumbered_low}
use Rattle.act_tree.proofs.tree.Tree.put_num.Goals as goal

pub set_num-requires-clause-within : goal.set_num-requires-clause-within
set_num-requires-clause-within c = node_within c.args.self.now c.args.id c.requires.node

pub invariant_of-self : goal.invariant_of-self
unfolding has_node
invariant_of-self c =
    let put = num_put c.args.self.now.arena c.set_num.new.self c.args.id c.args.num c.args.self.now.whole c.requires.node c.requires.provision
    c.set_num.ensures.numbers c.set_num.ensures.size c.set_num.ensures.restated c.requires.num in
    record { whole = put.holds.whole; low = still_low MAX_DEPTH _ _ _ put.holds.reads (renumbered_low _ _) c.args.self.now.low }

pub returns-clause-tree : goal.returns-clause-tree
unfolding has_node tree_view provision_at
returns-clause-tree c =
    ap {B = TreeValue} (λ body. record { numbering = c.args.self.now.numbering; limit = c.args.self.now.limit; body = body; changes = c.args.self.now.changes })
    (num_put c.args.self.now.arena c.set_num.new.self c.args.id c.args.num c.args.self.now.whole c.requires.node c.requires.provision
    c.set_num.ensures.numbers c.set_num.ensures.size c.set_num.ensures.restated c.requires.num).holds.reads

pub returns-clause-nodes : goal.returns-clause-nodes
unfolding has_node
returns-clause-nodes c =
    (num_put c.args.self.now.arena c.set_num.new.self c.args.id c.args.num c.args.self.now.whole c.requires.node c.requires.provision
    c.set_num.ensures.numbers c.set_num.ensures.size c.set_num.ensures.restated c.requires.num).nodes

pub returns-clause-wids : goal.returns-clause-wids
unfolding has_node provision_at
returns-clause-wids c =
    (num_put c.args.self.now.arena c.set_num.new.self c.args.id c.args.num c.args.self.now.whole c.requires.node c.requires.provision
    c.set_num.ensures.numbers c.set_num.ensures.size c.set_num.ensures.restated c.requires.num).wids
