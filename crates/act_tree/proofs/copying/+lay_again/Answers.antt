use Rattle.std.proofs.Common.{rules, ◌≡◌, ◌∙◌, sym, true, ap, subst, ℕ, ◌+◌, ◌<◌, List, length, map, take}
use Rattle.std.proofs.lemmas.List.{take_all}
use Rattle.act_tree.specs.Branches.{Branch, branch, branches_of}
use Rattle.act_tree.specs.Planted.{IsLaid, AreLaid}
use Rattle.act_tree.specs.Seen.{has_node, branch_at, below_at}
use Rattle.act_tree.specs.Slots.{provision_of}
use Rattle.act_tree.proofs.CopiedTrees.{child_lower, child_laid}
use Rattle.act_tree.proofs.Growing.{can_hold, all_laid, laid_node}
use Rattle.act_tree.proofs.LowNodes.{below_low}
use Rattle.act_tree.proofs.Walking.{branch_is}
use Rattle.act_tree.proofs.copying.+lay_again.Goals as goal

pub lay_again-requires : goal.lay_again-requires
lay_again-requires t c =
    let within : c.loop-child.child-index < length c.children-children.result.now = search rules in
    let lower = child_lower c.args.tree.now c.children-children.result.now c.loop-child.child-index c.child-item.result c.args.node within c.child-item.is c.children-children.ensures.branches in
    let node : has_node c.args.tree.now c.child-item.result ≡ true = search rules in
    (search (rules, lower), (node, (c.loop-child.invariant.grown.own c.in_ok-id.ensures.added.own, below_low c.args.tree.now c.child-item.result node)))

pub loop-child-preserved : goal.loop-child-preserved
loop-child-preserved t c =
    let children = c.children-children.result.now in
    let P : List ℕ → Type 0 = λ ids. AreLaid c.add_alone.new.self c.lay_again.new.arena ids (branches_of (map (branch_at c.args.tree.now) (take (c.loop-child.child-index + 1) children))) in
    subst P (sym c.in_ok-push.ensures.items)
    (child_laid c.args.tree.now c.add_alone.new.self c.loop-child.arena c.lay_again.new.arena c.in_ok-laid.laid c.loop-child.below.items children c.loop-child.child-index c.child-item.result
    (search rules) c.child-item.is c.loop-child.invariant c.in_ok-laid.ensures)

pub hold-requires-clause-within : goal.hold-requires-clause-within
hold-requires-clause-within t c = (can_hold c.args.arena.now c.add_alone.new.self c.loop-child.arena c.in_ok-id.id (provision_of c.in_ok-slot.slot) c.loop-child.below.items _ c.in_ok-id.ensures.id c.in_ok-id.ensures.added c.loop-child.invariant).0

pub hold-requires-clause-come : goal.hold-requires-clause-come
hold-requires-clause-come t c = all_laid c.add_alone.new.self c.loop-child.arena c.loop-child.below.items _ c.loop-child.invariant

pub hold-requires-clause-apart : goal.hold-requires-clause-apart
hold-requires-clause-apart t c = (can_hold c.args.arena.now c.add_alone.new.self c.loop-child.arena c.in_ok-id.id (provision_of c.in_ok-slot.slot) c.loop-child.below.items _ c.in_ok-id.ensures.id c.in_ok-id.ensures.added c.loop-child.invariant).1

pub returns : goal.returns
returns t c =
    let tree = c.args.tree.now in
    let P : Branch _ → Type 0 = λ b. IsLaid c.args.arena.now c.hold.new.self c.in_ok-id.id b in
    let all = ap (λ ids. branches_of (map (branch_at tree) ids)) (take_all _ _ (search rules)) ∙ c.children-children.ensures.branches in
    let says = ap provision_of c.in_ok-slot.ensures.same ∙ c.slot.ensures in
    subst P (ap (λ bs. branch (provision_of c.in_ok-slot.slot) bs) all ∙ ap (λ p. branch p (below_at tree c.args.node)) says ∙ sym (branch_is tree c.args.node))
    (laid_node c.args.arena.now c.add_alone.new.self c.loop-child.arena c.hold.new.self c.in_ok-id.id (provision_of c.in_ok-slot.slot) c.loop-child.below.items _
    c.in_ok-id.ensures.id c.in_ok-id.ensures.added c.in_ok-slot.ensures.num c.loop-child.invariant c.hold.ensures.relisted c.hold.ensures.numbers c.hold.ensures.size)

pub hold-requires-clause-own : goal.hold-requires-clause-own
hold-requires-clause-own t c = c.loop-child.invariant.grown.own c.in_ok-id.ensures.added.own
