use Rattle.act_tree.specs.Seen.{tree_view}
use Rattle.edit_laws.proofs.EitherOrder.{apart_touch}
use Rattle.edit_laws.proofs.TreesAfter.{InEitherOrder, in_either_order}
use Rattle.act_tree.proofs.WidsDiffer.{wids_differ}
use Rattle.edit_laws.proofs.laws.edits_apart_go_in_either_order.Goals as goal

pub returns-clause-made : goal.returns-clause-made
returns-clause-made c =
    let r : InEitherOrder (tree_view c.args.tree.now) c.args.by c.args.other c.args.one.now c.args.two.now =
    in_either_order (tree_view c.args.tree.now) c.args.by c.args.other c.args.one.now c.args.two.now (wids_differ c.args.tree.now) c.requires.fresh c.requires.other_fresh (apart_touch (tree_view c.args.tree.now).body c.args.one.now c.args.two.now c.requires.apart) c.requires.one_made c.requires.two_made c.requires.both_made in
    r.made

pub returns-clause-same : goal.returns-clause-same
returns-clause-same c =
    let r : InEitherOrder (tree_view c.args.tree.now) c.args.by c.args.other c.args.one.now c.args.two.now =
    in_either_order (tree_view c.args.tree.now) c.args.by c.args.other c.args.one.now c.args.two.now (wids_differ c.args.tree.now) c.requires.fresh c.requires.other_fresh (apart_touch (tree_view c.args.tree.now).body c.args.one.now c.args.two.now c.requires.apart) c.requires.one_made c.requires.two_made c.requires.both_made in
    r.same
