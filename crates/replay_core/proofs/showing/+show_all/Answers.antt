use Rattle.std.proofs.Common.{rules, ◌∙◌, ap, ◌<◌, map, option_map, length, Some, arith}
use Rattle.std.proofs.lemmas.List.{take_all}
use Rattle.act_tree.specs.Branches.{branches_of, height, heights}
use Rattle.act_tree.specs.Seen.{tree_view, branch_at}
use Rattle.act_tree.proofs.Walking.{children_lower}
use Rattle.law_register.specs.Answer.ShownNodes.{shown_view}
use Rattle.law_register.specs.Answer.Answers.{shown}
use Rattle.replay_core.proofs.ShowingLaws.{branches_of-shown, heights_shown, shown_one, shown_more}
use Rattle.replay_core.proofs.showing.+show_all.Goals as goal

pub show_all-requires : goal.show_all-requires
show_all-requires t c =
    let within : c.loop-id.id-index < length c.args.ids.now = search rules in
    let lower = children_lower c.args.tree.now c.args.ids.now c.children-children.result.now c.loop-id.id-index c.id-item.result within c.id-item.is c.children-children.ensures.branches in
    (search (rules, lower), (c.children-children.ensures.nodes, c.children-children.ensures.depth))

pub push-requires : goal.push-requires
push-requires t c =
    let tree = c.args.tree.now in
    let within : c.loop-id.id-index < length c.args.ids.now = search rules in
    let lower = children_lower tree c.args.ids.now c.children-children.result.now c.loop-id.id-index c.id-item.result within c.id-item.is c.children-children.ensures.branches in
    let kids = branches_of (map (branch_at tree) c.children-children.result.now) in
    let below = heights_shown c.args.on.now.known.now c.args.on.now.reading c.args.on.now.day (tree_view tree).numbering c.in_ok-bears.bears (Some c.as_str.result.now) kids in
    omega (arith, lower, c.requires.depth, ap height c.in_ok-show.ensures, ap heights c.in_ok-below.ensures, below)

pub loop-id-preserved : goal.loop-id-preserved
loop-id-preserved t c =
    let tree = c.args.tree.now in
    let k = c.args.on.now.known.now in
    let r = c.args.on.now.reading in
    let d = c.args.on.now.day in
    let n = (tree_view tree).numbering in
    let above = option_map (λ s. s.now) c.args.above in
    let within : c.loop-id.id-index < length c.args.ids.now = search rules in
    let one = shown_one k r d tree n c.args.flag c.in_ok-bears.bears above c.id-item.result c.in_ok-eid.eid c.as_str.result.now (shown_view c.in_ok-show.field-0) (branches_of c.in_ok-below.below)
    (branches_of (map (branch_at tree) c.children-children.result.now)) c.in_ok-show.ensures c.in_ok-eid.ensures c.in_ok-bears.ensures c.as_str.ensures c.in_ok-below.ensures c.children-children.ensures.branches in
    shown_more k r d tree n c.args.flag above c.args.ids.now c.loop-id.id-index c.id-item.result c.loop-id.shown c.push.new.self (shown_view c.in_ok-show.field-0)
    within c.id-item.is c.loop-id.invariant one c.in_ok-push.ensures.ok

pub returns : goal.returns
returns t c =
    let above = option_map (λ s. s.now) c.args.above in
    let tree = c.args.tree.now in
    let k = c.args.on.now.known.now in
    let r = c.args.on.now.reading in
    let d = c.args.on.now.day in
    ap branches_of (c.loop-id.invariant ∙ ap (λ ids. map (shown k r d (tree_view tree).numbering c.args.flag above) (map (branch_at tree) ids)) (take_all _ _ (search rules)))
    ∙ branches_of-shown k r d (tree_view tree).numbering c.args.flag above _
