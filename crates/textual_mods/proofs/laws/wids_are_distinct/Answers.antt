use Rattle.act_tree.proofs.WidsDiffer.{wids_differ}
use Rattle.textual_mods.proofs.laws.wids_are_distinct.Goals as goal

pub returns : goal.returns
returns c = wids_differ c.args.tree.now
