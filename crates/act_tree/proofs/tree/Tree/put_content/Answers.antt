use Rattle.std.proofs.Common.{ap}
use Rattle.act_tree.specs.Changes.{with_content}
use Rattle.act_tree.specs.Seen.{has_node, tree_view, provision_at}
use Rattle.act_tree.specs.Trees.{TreeValue}
use Rattle.act_tree.proofs.RestatedNodes.{content_given}
use Rattle.act_tree.proofs.SlotsOfNodes.{node_within}
use Rattle.act_tree.specs.declared.limits.TheConstants.{MAX_DEPTH}
use Rattle.act_tree.proofs.LowTexts.{still_low, changed_low, content_low}
use Rattle.act_tree.proofs.tree.Tree.put_content.Goals as goal

pub set_content-requires-clause-within : goal.set_content-requires-clause-within
set_content-requires-clause-within c = node_within c.args.self.now c.args.id c.requires.node

pub invariant_of-self : goal.invariant_of-self
unfolding has_node
invariant_of-self c =
    let given = content_given c.args.self.now.arena c.set_content.new.self c.args.id c.args.content c.args.self.now.whole c.requires.node c.requires.provision
    c.set_content.ensures.numbers c.set_content.ensures.size c.set_content.ensures.restated in
    record { whole = given.holds.whole; low = still_low MAX_DEPTH _ _ _ given.holds.reads (changed_low (with_content c.args.content) (content_low c.args.content) _ _) c.args.self.now.low }

pub returns-clause-tree : goal.returns-clause-tree
unfolding has_node tree_view provision_at
returns-clause-tree c =
    ap {B = TreeValue} (λ body. record { numbering = c.args.self.now.numbering; limit = c.args.self.now.limit; body = body; changes = c.args.self.now.changes })
    (content_given c.args.self.now.arena c.set_content.new.self c.args.id c.args.content c.args.self.now.whole c.requires.node c.requires.provision
    c.set_content.ensures.numbers c.set_content.ensures.size c.set_content.ensures.restated).holds.reads

pub returns-clause-nodes : goal.returns-clause-nodes
unfolding has_node
returns-clause-nodes c =
    (content_given c.args.self.now.arena c.set_content.new.self c.args.id c.args.content c.args.self.now.whole c.requires.node c.requires.provision
    c.set_content.ensures.numbers c.set_content.ensures.size c.set_content.ensures.restated).nodes

pub returns-clause-wids : goal.returns-clause-wids
unfolding has_node provision_at
returns-clause-wids c =
    (content_given c.args.self.now.arena c.set_content.new.self c.args.id c.args.content c.args.self.now.whole c.requires.node c.requires.provision
    c.set_content.ensures.numbers c.set_content.ensures.size c.set_content.ensures.restated).wids
