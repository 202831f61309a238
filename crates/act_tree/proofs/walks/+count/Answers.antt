use Rattle.std.proofs.Common.{rules, ◌≡◌, ◌∙◌, ap, ℕ, ◌+◌, ◌<◌, map, drop, get_or, length, arith}
use Rattle.std.proofs.lemmas.List.{drop_all}
use Rattle.act_tree.specs.Branches.{branches_of, counts}
use Rattle.act_tree.specs.Seen.{branch_at, below_at}
use Rattle.act_tree.proofs.Walking.{nodes_from, children_lower}
use Rattle.act_tree.proofs.walks.+count.Goals as goal

pub count-below-requires : goal.count-below-requires
count-below-requires t c =
    let within : c.loop-id.id-index < length c.args.ids.now = search rules in
    let lower = children_lower c.args.tree.now c.args.ids.now c.children.result.now c.loop-id.id-index c.id-item.result within c.id-item.is c.children.ensures.branches in
    (search (rules, lower), (c.children.ensures.nodes, c.children.ensures.depth))

pub loop-id-preserved : goal.loop-id-preserved
loop-id-preserved t c =
    let ids = c.args.ids.now in
    let id : ℕ = c.id-item.result in
    let within : c.loop-id.id-index < length ids = search rules in
    let here : id ≡ get_or ids c.loop-id.id-index id = c.id-item.is in
    let from : counts (branches_of (map (branch_at c.args.tree.now) (drop c.loop-id.id-index ids)))
    ≡ counts (below_at c.args.tree.now (get_or ids c.loop-id.id-index id)) + 1 + counts (branches_of (map (branch_at c.args.tree.now) (drop (c.loop-id.id-index + 1) ids))) =
    ap counts (nodes_from c.args.tree.now ids c.loop-id.id-index id within) in
    let same : counts (branches_of (map (branch_at c.args.tree.now) c.children.result.now)) ≡ counts (below_at c.args.tree.now (get_or ids c.loop-id.id-index id)) =
    ap counts c.children.ensures.branches ∙ ap (λ j. counts (below_at c.args.tree.now j)) here in
    (omega arith, omega arith)

pub returns : goal.returns
returns t c =
    let ids = c.args.ids.now in
    let none : counts (branches_of (map (branch_at c.args.tree.now) (drop c.loop-id.id-index ids))) ≡ 0 =
    ap (λ js. counts (branches_of (map (branch_at c.args.tree.now) js))) (drop_all c.loop-id.id-index ids (search rules)) in
    omega arith
