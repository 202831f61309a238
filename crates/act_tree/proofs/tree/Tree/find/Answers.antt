use Rattle.std.proofs.Common.{◌∙◌, sym, ap, is_some}
use Rattle.act_tree.specs.Seen.{has_node, tree_view, provision_at, branch_at}
use Rattle.act_tree.specs.Slots.{at, number, size}
use Rattle.act_tree.proofs.TreeNodes.{not_found, not_climbing, found_wid, found_held}
use Rattle.act_tree.proofs.Finding.{leads_to_root, found_node}
use Rattle.act_tree.proofs.tree.Tree.find.Goals as goal

pub returns-in_err-id-clause-found : goal.returns-in_err-id-clause-found
unfolding tree_view
returns-in_err-id-clause-found c =
    let arena = c.args.self.now.arena in
    ap is_some c.from_residual.ensures ∙ sym (not_found (at arena) (number arena) (size arena) c.args.self.now.whole c.args.wid.now (sym c.in_err-id.ensures))

pub returns-then-climbs-clause-found : goal.returns-then-climbs-clause-found
unfolding tree_view
returns-then-climbs-clause-found c =
    let arena = c.args.self.now.arena in
    sym (found_held (at arena) (number arena) (size arena) c.args.self.now.whole c.args.wid.now c.in_ok-id.id (sym c.in_ok-id.ensures) (sym c.if-climbs.ensures))

pub returns-then-climbs-clause-wid : goal.returns-then-climbs-clause-wid
unfolding provision_at
returns-then-climbs-clause-wid c =
    let arena = c.args.self.now.arena in
    found_wid (at arena) (number arena) (size arena) c.args.self.now.whole c.args.wid.now c.in_ok-id.id (sym c.in_ok-id.ensures)

pub returns-then-climbs-clause-node : goal.returns-then-climbs-clause-node
unfolding has_node
returns-then-climbs-clause-node c = sym c.if-climbs.ensures

pub returns-else-climbs-clause-found : goal.returns-else-climbs-clause-found
unfolding tree_view
returns-else-climbs-clause-found c =
    let arena = c.args.self.now.arena in
    sym (not_climbing (at arena) (number arena) (size arena) c.args.self.now.whole c.args.wid.now c.in_ok-id.id (sym c.in_ok-id.ensures) (sym c.if-climbs.ensures))

pub returns-then-climbs-clause-root : goal.returns-then-climbs-clause-root
returns-then-climbs-clause-root c =
    let arena = c.args.self.now.arena in
    leads_to_root (at arena) (number arena) (size arena) c.args.self.now.whole c.args.wid.now c.in_ok-id.id (sym c.in_ok-id.ensures)

pub returns-then-climbs-clause-branch : goal.returns-then-climbs-clause-branch
unfolding tree_view branch_at
returns-then-climbs-clause-branch c =
    let arena = c.args.self.now.arena in
    found_node (at arena) (number arena) (size arena) c.args.self.now.whole c.args.wid.now c.in_ok-id.id (sym c.in_ok-id.ensures) (sym c.if-climbs.ensures)
