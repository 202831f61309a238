use Rattle.std.proofs.Common.{rules, ◌≡◌, ◌∙◌, sym, ap, ℕ, ◌+◌, ◌<◌, map, option_map, drop, length}
use Rattle.act_tree.specs.Branches.{branch, branches_of}
use Rattle.act_tree.specs.Eids.{eid_below}
use Rattle.act_tree.specs.Faults.{owns, all_owns, is_long}
use Rattle.act_tree.specs.Seen.{tree_view, provision_at, branch_at, below_at}
use Rattle.act_tree.specs.Slots.{provision_of}
use Rattle.act_tree.specs.Surveys.{seen, surveyed, all_surveyed, next_to}
use Rattle.act_tree.proofs.Walking.{nodes_from, children_lower, surveyed_one}
use Rattle.act_tree.proofs.walks.+survey.Goals as goal

pub survey-requires : goal.survey-requires
survey-requires t c =
    let within : c.loop-id.id-index < length c.args.ids.now = search rules in
    let lower = children_lower c.args.tree.now c.args.ids.now c.children-children.result.now c.loop-id.id-index c.id-item.result within c.id-item.is c.children-children.ensures.branches in
    (search (rules, lower), (c.children-children.ensures.nodes, c.children-children.ensures.depth))

pub loop-id-preserved : goal.loop-id-preserved
loop-id-preserved t c =
    let tree = c.args.tree.now in
    let ids = c.args.ids.now in
    let id : ℕ = c.id-item.result in
    let slot = c.slot-slot.result.now in
    let n = (tree_view tree).numbering in
    let above = option_map (λ s. s.now) c.args.above in
    let within : c.loop-id.id-index < length ids = search rules in
    let says : provision_of slot ≡ provision_at tree id = c.slot-slot.ensures in
    let is : c.in_ok-eid.eid ≡ eid_below n above (provision_at tree id).own.element (provision_at tree id).own.num =
    c.in_ok-eid.ensures ∙ ap (λ m. eid_below m above slot.element slot.num) c.numbering.ensures ∙ ap (λ p. eid_below n above p.own.element p.own.num) says in
    let deep : c.saturating_add-depth.result ≡ next_to c.args.levels = search rules in
    let one : seen c.survey.new.survey_so_far ≡ surveyed n above c.args.levels (owns (branch (provision_at tree id) (below_at tree id))) (seen c.loop-id.survey_so_far) =
    surveyed_one tree n above c.args.levels c.saturating_add-depth.result id c.in_ok-eid.eid c.as_str.result.now c.in_ok-copy.field-0 (is_long (provision_of slot).own)
    (branches_of (map (branch_at tree) c.children-children.result.now)) (seen c.loop-id.survey_so_far) (seen c.note.new.self) (seen c.survey.new.survey_so_far)
    deep is c.as_str.ensures c.in_ok-copy.ensures (ap (λ p. is_long p.own) says) c.children-children.ensures.branches c.in_ok-note.ensures c.in_ok-survey.ensures in
    let from = nodes_from tree ids c.loop-id.id-index id within in
    let rest = all_owns (branches_of (map (branch_at tree) (drop (c.loop-id.id-index + 1) ids))) in
    ap (all_surveyed n above c.args.levels rest) one
    ∙ ap (λ j. all_surveyed n above c.args.levels rest (surveyed n above c.args.levels (owns (branch (provision_at tree j) (below_at tree j))) (seen c.loop-id.survey_so_far))) c.id-item.is
    ∙ sym (ap (λ bs. all_surveyed n above c.args.levels (all_owns bs) (seen c.loop-id.survey_so_far)) from)
    ∙ c.loop-id.invariant
