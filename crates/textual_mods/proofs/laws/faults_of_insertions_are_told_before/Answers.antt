use Rattle.act_tree.specs.Branches.{branches_of}
use Rattle.textual_mods.proofs.InsertedTrees.{fault_of_insertion}
use Rattle.textual_mods.proofs.laws.faults_of_insertions_are_told_before.Goals as goal

pub returns : goal.returns
returns c place = fault_of_insertion c.args.tree.now c.args.by (branches_of c.args.nodes.now) c.requires.fits c.requires.payload c.requires.nums c.args.parent place c.requires.node
