use Rattle.act_tree.specs.Branches.{branches_of}
use Rattle.textual_mods.proofs.Starting.{enacted_fits}
use Rattle.textual_mods.proofs.laws.enacted_is_well_formed.Goals as goal

pub returns : goal.returns
returns c = enacted_fits c.args.numbering c.args.limit (branches_of c.args.nodes.now) c.requires
