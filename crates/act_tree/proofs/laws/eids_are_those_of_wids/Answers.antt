use Rattle.act_tree.proofs.Ways.{eids_are_told}
use Rattle.act_tree.proofs.laws.eids_are_those_of_wids.Goals as goal

pub returns : goal.returns
returns c = eids_are_told c.args.tree.now
