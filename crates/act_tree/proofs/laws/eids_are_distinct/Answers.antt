use Rattle.act_tree.proofs.EidsOfTree.{one_has_eid}
use Rattle.act_tree.proofs.laws.eids_are_distinct.Goals as goal

pub returns : goal.returns
returns c = one_has_eid c.args.tree.now c.args.one c.args.other c.args.eid.now c.requires.well_formed c.requires.one c.requires.other
