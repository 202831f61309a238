-- Above the node stands one less than above it.
use Rattle.act_tree.specs.Depths.{depth_of}
use Rattle.act_tree.specs.Seen.{tree_view, provision_at}
use Rattle.replay_core.proofs.showing.+flag_of_node.Given as goal

abbrev pub decreases-flag_of_node : goal.decreases-flag_of_node
decreases-flag_of_node l = depth_of (provision_at l.tree.now l.node).wid (tree_view l.tree.now).body
