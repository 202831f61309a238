use Rattle.std.proofs.Common.{rules, ◌∙◌, ◌<◌, ◌++◌, map, length}
use Rattle.act_tree.specs.Branches.{branches_of}
use Rattle.act_tree.specs.Seen.{branch_at}
use Rattle.act_tree.specs.Wids.{all_wids}
use Rattle.act_tree.proofs.Walking.{children_lower}
use Rattle.law_reports.proofs.ListedWids.{wids_kept}
use Rattle.law_reports.proofs.correspondences.+add_wids.Goals as goal

pub add_wids-requires : goal.add_wids-requires
add_wids-requires t c =
    let within : c.loop-id.id-index < length c.args.ids.now = search rules in
    let lower = children_lower c.args.tree.now c.args.ids.now c.children.result.now c.loop-id.id-index c.id-item.result within c.id-item.is c.children.ensures.branches in
    (search (rules, lower), (c.children.ensures.nodes, c.children.ensures.depth))

pub loop-id-preserved : goal.loop-id-preserved
loop-id-preserved t c =
    let tree = c.args.tree.now in
    let ids = c.args.ids.now in
    let within : c.loop-id.id-index < length ids = search rules in
    wids_kept tree ids c.loop-id.id-index c.id-item.result (branches_of (map (branch_at tree) c.children.result.now)) c.loop-id.wids.items c.push.new.self.items c.add_wids.new.wids.items
    (c.args.wids.now.items ++ all_wids (branches_of (map (branch_at tree) ids))) c.in_ok-copy.field-0
    within c.id-item.is c.children.ensures.branches (c.in_ok-copy.ensures ∙ c.provision.ensures.wid) c.in_ok-push.ensures.items c.in_ok-add_wids.ensures c.loop-id.invariant
