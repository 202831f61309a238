use Rattle.act_tree.specs.Seen.{tree_view}
use Rattle.act_tree.proofs.ChangeLaws.{all_wids_changed}
use Rattle.act_tree.proofs.laws.contents_keep_wids.Goals as goal

pub returns : goal.returns
returns c = all_wids_changed c.args.content.now c.args.wid.now (tree_view c.args.tree.now).body
