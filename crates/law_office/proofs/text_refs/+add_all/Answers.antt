use Rattle.std.proofs.Common.{rules, ◌∙◌, ◌++◌, ◌<◌, map, option_map, length}
use Rattle.act_tree.specs.Branches.{branches_of}
use Rattle.act_tree.specs.Seen.{branch_at, tree_view}
use Rattle.act_tree.proofs.Walking.{children_lower}
use Rattle.law_refs.specs.Missing.{all_branch_refs}
use Rattle.law_office.proofs.TextRefs.{refs_more, refs_none, refs_one}
use Rattle.law_office.proofs.text_refs.+add_all.Goals as goal

pub add_all-requires : goal.add_all-requires
add_all-requires t c =
    let within : c.loop-id.id-index < length c.args.ids.now = search rules in
    let lower = children_lower c.args.tree.now c.args.ids.now c.children-children.result.now c.loop-id.id-index c.id-item.result within c.id-item.is c.children-children.ensures.branches in
    (search (rules, lower), (c.children-children.ensures.nodes, c.children-children.ensures.depth))

pub loop-id-preserved-then-is_bare : goal.loop-id-preserved-then-is_bare
loop-id-preserved-then-is_bare t c =
    let tree = c.args.tree.now in
    let n = (tree_view tree).numbering in
    let above = option_map (λ s. s.now) c.args.above in
    let within : c.loop-id.id-index < length c.args.ids.now = search rules in
    refs_more tree n above c.args.ids.now c.loop-id.id-index c.id-item.result c.loop-id.found c.loop-id.found
    (c.args.found.now ++ all_branch_refs n above (branches_of (map (branch_at tree) c.args.ids.now)))
    within c.id-item.is (refs_none tree n above c.id-item.result c.loop-id.found (c.is_bare.ensures.refs c.if-is_bare.true) (c.is_bare.ensures.below c.if-is_bare.true))
    c.loop-id.invariant

pub loop-id-preserved : goal.loop-id-preserved
loop-id-preserved t c =
    let tree = c.args.tree.now in
    let n = (tree_view tree).numbering in
    let above = option_map (λ s. s.now) c.args.above in
    let within : c.loop-id.id-index < length c.args.ids.now = search rules in
    refs_more tree n above c.args.ids.now c.loop-id.id-index c.id-item.result c.loop-id.found c.add_all.new.found
    (c.args.found.now ++ all_branch_refs n above (branches_of (map (branch_at tree) c.args.ids.now)))
    within c.id-item.is
    (refs_one tree n above c.id-item.result c.in_ok-eid.eid c.as_str.result.now c.as_slice.result.now
    (branches_of (map (branch_at tree) c.children-children.result.now)) c.loop-id.found c.add_refs.new.found c.add_all.new.found
    c.in_ok-eid.ensures (c.as_slice.ensures ∙ c.provision-provision.ensures.refs) c.in_ok-add_refs.ensures c.as_str.ensures
    c.children-children.ensures.branches c.in_ok-add_all.ensures)
    c.loop-id.invariant
