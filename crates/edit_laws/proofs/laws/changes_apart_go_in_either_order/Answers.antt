use Rattle.act_tree.specs.Seen.{tree_view}
use Rattle.edit_laws.proofs.EitherOrder.{changes_apart}
use Rattle.act_tree.proofs.WidsDiffer.{wids_differ}
use Rattle.edit_laws.proofs.laws.changes_apart_go_in_either_order.Goals as goal

pub returns : goal.returns
returns c = λ one two own other_own none other_none.
    changes_apart one two (tree_view c.args.tree.now).body c.args.wid.now c.args.other.now (wids_differ c.args.tree.now) c.requires own other_own none other_none
