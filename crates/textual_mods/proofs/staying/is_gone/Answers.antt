use Rattle.textual_mods.proofs.LeftNodes.{gone_told, none_gone}
use Rattle.textual_mods.proofs.staying.is_gone.Goals as goal

pub returns-in-Some : goal.returns-in-Some
returns-in-Some c = gone_told c.args.tree.now c.args.gone.now c.in-Some.other c.args.id c.eq.result c.in-Some.is c.requires.gone c.requires.node c.eq.ensures

pub returns-in-None : goal.returns-in-None
returns-in-None c = none_gone c.args.tree.now c.args.gone.now c.args.id c.in-None.is
