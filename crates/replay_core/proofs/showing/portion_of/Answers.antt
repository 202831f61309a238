use Rattle.std.proofs.Common.{sym, map, ap, Some, arith}
use Rattle.act_tree.specs.Branches.{branches_of, height, heights}
use Rattle.act_tree.specs.Seen.{branch_at, tree_view}
use Rattle.act_tree.proofs.LowNodes.{node_low}
use Rattle.law_register.specs.Answer.ShownNodes.{shown_view}
use Rattle.replay_core.proofs.NodesFound.{none_found, node_found}
use Rattle.replay_core.proofs.ShowingLaws.{heights_shown}
use Rattle.replay_core.proofs.showing.portion_of.Goals as goal

pub returns-in_default-clause-portion : goal.returns-in_default-clause-portion
returns-in_default-clause-portion c =
    sym (none_found c.args.on.now.known.now c.args.on.now.reading c.args.on.now.day c.args.tree.now c.args.flag c.args.eid.now c.find_eid.result c.find_eid.ensures.found c.in_default.is)

pub returns-clause-portion : goal.returns-clause-portion
returns-clause-portion c =
    let tree = c.args.tree.now in
    let node = rw c.in-Some.is at c.find_eid.ensures.node in
    node_found c.args.on.now.known.now c.args.on.now.reading c.args.on.now.day tree c.args.flag c.in_ok-bears.bears c.in-Some.id c.args.eid.now c.in_ok-own.own
    (shown_view c.in_ok-shown.shown) (branches_of c.in_ok-below.below) (branches_of (map (branch_at tree) c.children-children.result.now))
    c.requires.once c.requires.flag node c.in_ok-bears.ensures c.in_ok-shown.ensures c.in_ok-own.ensures c.in_ok-below.ensures c.children-children.ensures.branches

pub returns-clause-depth : goal.returns-clause-depth
returns-clause-depth c =
    let tree = c.args.tree.now in
    let node = rw c.in-Some.is at c.find_eid.ensures.node in
    let kids = branches_of (map (branch_at tree) c.children-children.result.now) in
    let shown = heights_shown c.args.on.now.known.now c.args.on.now.reading c.args.on.now.day (tree_view tree).numbering c.in_ok-bears.bears (Some c.args.eid.now) kids in
    omega (arith, node_low tree c.in-Some.id node.0 node.1.0, ap heights c.children-children.ensures.branches, ap height c.in_ok-shown.ensures, ap heights c.in_ok-below.ensures, shown)
