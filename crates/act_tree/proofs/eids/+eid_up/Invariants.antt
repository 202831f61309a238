-- Each step up leaves one step less.
use Rattle.act_tree.proofs.eids.+eid_up.Given as goal

abbrev pub decreases-eid_up : goal.decreases-eid_up
decreases-eid_up l = l.steps
