use Rattle.act_tree.specs.Branches.{branches_of}
use Rattle.textual_mods.proofs.Starting.{enacted_brings_none}
use Rattle.textual_mods.proofs.laws.enacted_brings_nothing.Goals as goal

pub returns : goal.returns
returns c = enacted_brings_none c.args.numbering (branches_of c.args.nodes.now) c.args.by
