use Rattle.std.proofs.Common.{rules, ◌≡◌, ◌∙◌, ap, cond, ◌+◌, ◌<◌, map, min, drop, length, arith}
use Rattle.act_tree.specs.Branches.{Branches, branches_of, no_branches, counts}
use Rattle.act_tree.specs.Provisions.{Provision}
use Rattle.act_tree.specs.Seen.{provision_at, branch_at, below_at}
use Rattle.textual_mods.specs.Substitutions.{goes, left, wid_of}
use Rattle.textual_mods.proofs.LeftNodes.{kids_lower, unless_gone, own_counted, counts_from}
use Rattle.textual_mods.proofs.staying.+count_of_left.Goals as goal

pub count_of_left-beneath-requires : goal.count_of_left-beneath-requires
count_of_left-beneath-requires t c =
    let within : c.loop-id.id-index < length c.args.ids.now = search rules in
    let lower = kids_lower c.args.tree.now c.args.gone.now c.args.ids.now c.loop-id.id-index c.id-item.result within c.id-item.is c.children_left-children.result.now c.children_left-children.ensures.branches in
    (search (rules, lower), (c.requires.gone, (c.children_left-children.ensures.nodes, c.children_left-children.ensures.depth)))

pub loop-id-preserved : goal.loop-id-preserved
loop-id-preserved t c =
    let tree = c.args.tree.now in
    let ids = c.args.ids.now in
    let g = wid_of tree c.args.gone.now in
    let within : c.loop-id.id-index < length ids = search rules in
    let kept : Branches Provision = left g (cond (goes g (provision_at tree c.id-item.result).wid) no_branches (below_at tree c.id-item.result)) in
    let told : c.count_of_left-beneath.result ≡ min (counts kept) 4294967295 = c.count_of_left-beneath.ensures ∙ ap (λ (bs : Branches Provision). min (counts (left g bs)) 4294967295) c.children_left-children.ensures.branches in
    let own : c.own_count-own.result ≡ unless_gone (goes g (provision_at tree c.id-item.result).wid) 1 = own_counted (goes g (provision_at tree c.id-item.result).wid) c.own_count-own.result c.own_count-own.ensures in
    let from : counts (left g (branches_of (map (branch_at tree) (drop c.loop-id.id-index ids))))
    ≡ unless_gone (goes g (provision_at tree c.id-item.result).wid) 1 + counts kept + counts (left g (branches_of (map (branch_at tree) (drop (c.loop-id.id-index + 1) ids)))) =
    counts_from tree c.args.gone.now ids c.loop-id.id-index c.id-item.result within c.id-item.is in
    (omega arith, omega arith)
