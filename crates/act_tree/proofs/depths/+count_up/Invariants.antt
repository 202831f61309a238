-- Each step up leaves one step less.
use Rattle.act_tree.proofs.depths.+count_up.Given as goal

abbrev pub decreases-count_up : goal.decreases-count_up
decreases-count_up l = l.steps
