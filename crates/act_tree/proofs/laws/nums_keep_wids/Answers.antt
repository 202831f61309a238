use Rattle.act_tree.specs.Seen.{tree_view}
use Rattle.act_tree.proofs.ChangeLaws.{all_wids_renumbered}
use Rattle.act_tree.proofs.laws.nums_keep_wids.Goals as goal

pub returns : goal.returns
returns c = λ pairs. all_wids_renumbered pairs (tree_view c.args.tree.now).body
