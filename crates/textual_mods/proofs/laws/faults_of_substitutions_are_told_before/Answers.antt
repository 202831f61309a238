use Rattle.act_tree.specs.Branches.{branches_of}
use Rattle.textual_mods.proofs.Substituted.{fault_of_substitution}
use Rattle.textual_mods.proofs.laws.faults_of_substitutions_are_told_before.Goals as goal

pub returns : goal.returns
returns c =
    fault_of_substitution c.args.tree.now c.args.by (branches_of c.args.nodes.now) c.requires.fits c.requires.payload c.requires.nums
    c.args.id c.args.parent c.args.place c.requires.node c.requires.provision c.requires.parent c.requires.child
