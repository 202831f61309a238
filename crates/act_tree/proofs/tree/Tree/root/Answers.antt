use Rattle.std.proofs.Common.{ap, ◌∙◌}
use Rattle.act_tree.specs.Arena.{climbs}
use Rattle.act_tree.specs.Seen.{has_node}
use Rattle.act_tree.specs.Slots.{at, number, size}
use Rattle.act_tree.proofs.TreeNodes.{root_climbs}
use Rattle.act_tree.proofs.tree.Tree.root.Goals as goal

pub returns-clause-node : goal.returns-clause-node
unfolding has_node
returns-clause-node c =
    let arena = c.args.self.now.arena in
    ap (climbs (size arena) (at arena)) c.root.ensures ∙ root_climbs (at arena) (number arena) (size arena) c.args.self.now.whole
