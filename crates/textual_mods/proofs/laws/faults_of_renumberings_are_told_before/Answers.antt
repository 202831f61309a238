use Rattle.textual_mods.proofs.NumsTaken.{fault_of_renumbering}
use Rattle.textual_mods.proofs.laws.faults_of_renumberings_are_told_before.Goals as goal

pub returns : goal.returns
returns c = fault_of_renumbering c.args.tree.now c.requires.fits c.args.pairs.now c.requires.nums
