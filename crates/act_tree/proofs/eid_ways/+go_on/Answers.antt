use Rattle.std.proofs.Common.{rules, ◌≡◌, ◌∙◌, sym, ap, ◌+◌, ◌<◌, true, false, List, length, map, take, drop, Some, arith}
use Rattle.std.proofs.lemmas.List.{drop_all}
use Rattle.eid_paths.specs.Eids.{eid_text}
use Rattle.eid_paths.specs.declared.level.Level.{Level}
use Rattle.act_tree.specs.Branches.{no_branches, branches_of}
use Rattle.act_tree.specs.EidsOfNodes.{IsNodeOf}
use Rattle.act_tree.specs.Seen.{tree_view, branch_at}
use Rattle.act_tree.specs.WaysDown.{has_way}
use Rattle.act_tree.proofs.CopiedTrees.{child_lower}
use Rattle.act_tree.proofs.EidsOfTree.{AreUnder, children_of}
use Rattle.act_tree.proofs.GoingDown.{drop_here, within_levels, way_past, way_here, way_later, goes_down}
use Rattle.act_tree.proofs.LowNodes.{below_low}
use Rattle.act_tree.proofs.eid_ways.+go_on.Goals as goal

pub loop-child-preserved-then-not-goes_on_at : goal.loop-child-preserved-then-not-goes_on_at
loop-child-preserved-then-not-goes_on_at t c =
    let within : c.loop-child.child-index < length c.children-children.result.now = search rules in
    let off : c.goes_on_at.result ≡ false = search rules in
    way_past c.args.tree.now c.args.levels.now c.args.named c.level-level.result c.level-level.ensures c.children-children.result.now c.loop-child.child-index c.child-item.result within c.child-item.is
    c.goes_on_at.result c.goes_on_at.ensures off
    ∙ c.loop-child.invariant

pub go_on-found-requires : goal.go_on-found-requires
go_on-found-requires t c =
    let tree = c.args.tree.now in
    let levels = c.args.levels.now in
    let within : c.loop-child.child-index < length c.children-children.result.now = search rules in
    let does : c.goes_on_at.result ≡ true = search rules in
    let low : c.args.named < length levels = within_levels levels c.args.named c.level-level.result c.level-level.ensures in
    let lower = child_lower tree c.children-children.result.now c.loop-child.child-index c.child-item.result c.args.id within c.child-item.is c.children-children.ensures.branches in
    let under : AreUnder tree (Some (eid_text (take c.args.named levels))) c.children-children.result.now =
    children_of tree c.args.id (Some (eid_text (take c.args.named levels))) c.children-children.result.now c.requires.node.0 (sym c.requires.node.1.1) c.children-children.ensures.numbers in
    let node : IsNodeOf tree (eid_text (take (c.args.named + 1) levels)) c.child-item.result =
    goes_down tree levels c.args.named c.level-level.result c.level-level.ensures c.children-children.result.now c.loop-child.child-index c.child-item.result within c.child-item.is
    c.goes_on_at.result c.goes_on_at.ensures does c.requires.some under in
    (search (rules, lower), (node, (omega arith, (omega arith, below_low tree c.child-item.result node.0))))

pub returns-then-is_some-clause-found : goal.returns-then-is_some-clause-found
returns-then-is_some-clause-found t c =
    let within : c.loop-child.child-index < length c.children-children.result.now = search rules in
    let does : c.goes_on_at.result ≡ true = search rules in
    way_here c.args.tree.now c.args.levels.now c.args.named c.level-level.result c.level-level.ensures c.children-children.result.now c.loop-child.child-index c.child-item.result within c.child-item.is
    c.goes_on_at.result c.goes_on_at.ensures does _ c.go_on-found.ensures.found (sym c.is_some.ensures ∙ c.if-is_some.true)
    ∙ c.loop-child.invariant

pub loop-child-preserved : goal.loop-child-preserved
loop-child-preserved t c =
    let within : c.loop-child.child-index < length c.children-children.result.now = search rules in
    let does : c.goes_on_at.result ≡ true = search rules in
    way_later c.args.tree.now c.args.levels.now c.args.named c.level-level.result c.level-level.ensures c.children-children.result.now c.loop-child.child-index c.child-item.result within c.child-item.is
    c.goes_on_at.result c.goes_on_at.ensures does _ c.go_on-found.ensures.found (sym c.is_some.ensures ∙ c.if-is_some.false)
    ∙ c.loop-child.invariant

pub returns-clause-found : goal.returns-clause-found
returns-clause-found t c =
    let tree = c.args.tree.now in
    let left : List Level = drop c.args.named c.args.levels.now in
    sym (sym c.loop-child.invariant
    ∙ ap (λ js. has_way (tree_view tree).numbering left (branches_of (map (branch_at tree) js))) (drop_all c.loop-child.child-index c.children-children.result.now (search rules))
    ∙ ap (λ ls. has_way (tree_view tree).numbering ls no_branches) (drop_here c.args.levels.now c.args.named c.level-level.result c.level-level.ensures))
