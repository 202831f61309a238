use Rattle.std.proofs.Common.{rules, ◌≡◌, ◌∙◌, sym, ap, subst, map, true, List, ℕ, ◌<◌, length}
use Rattle.std.specs.List.{All}
use Rattle.act_tree.specs.Arena.{below_in, branch_from, climbs}
use Rattle.act_tree.specs.Branches.{branches_of}
use Rattle.act_tree.specs.Seen.{has_node, children_at, branch_at, below_at}
use Rattle.act_tree.specs.Slots.{at, number, size}
use Rattle.act_tree.proofs.SlotsOfNodes.{node_within, node_slot}
use Rattle.act_tree.proofs.TreeNodes.{children_branches, children_climb}
use Rattle.act_tree.proofs.LowNodes.{children_low}
use Rattle.act_tree.proofs.tree.Tree.children.Goals as goal

pub index-requires : goal.index-requires
index-requires c =
    let inside : c.args.id < length c.args.self.now.arena.slots.items = node_within c.args.self.now c.args.id c.requires in
    search (rules, inside)

pub returns-clause-numbers : goal.returns-clause-numbers
unfolding children_at
returns-clause-numbers c =
    c.as_slice.ensures ∙ sym (ap below_in (node_slot c.args.self.now c.args.id c.place.result c.index.result.now c.requires c.place.ensures c.index.ensures))

pub returns-clause-nodes : goal.returns-clause-nodes
unfolding has_node
returns-clause-nodes c =
    let arena = c.args.self.now.arena in
    let P : List ℕ → Type 0 = λ ids. All (λ k. climbs (size arena) (at arena) k ≡ true) ids in
    let same : c.as_slice.result.now ≡ below_in (at arena c.args.id) =
    c.as_slice.ensures ∙ sym (ap below_in (node_slot c.args.self.now c.args.id c.place.result c.index.result.now c.requires c.place.ensures c.index.ensures)) in
    subst P (sym same) (children_climb (at arena) (number arena) (size arena) c.args.self.now.whole c.args.id c.requires)

pub returns-clause-branches : goal.returns-clause-branches
unfolding has_node branch_at below_at
returns-clause-branches c =
    let arena = c.args.self.now.arena in
    let same : c.as_slice.result.now ≡ below_in (at arena c.args.id) =
    c.as_slice.ensures ∙ sym (ap below_in (node_slot c.args.self.now c.args.id c.place.result c.index.result.now c.requires c.place.ensures c.index.ensures)) in
    ap (λ ids. branches_of (map (branch_from (size arena) (at arena)) ids)) same
    ∙ children_branches (at arena) (number arena) (size arena) c.args.self.now.whole c.args.id c.requires

pub returns-clause-depth : goal.returns-clause-depth
unfolding has_node branch_at below_at
returns-clause-depth c =
    let arena = c.args.self.now.arena in
    let same : c.as_slice.result.now ≡ below_in (at arena c.args.id) =
    c.as_slice.ensures ∙ sym (ap below_in (node_slot c.args.self.now c.args.id c.place.result c.index.result.now c.requires c.place.ensures c.index.ensures)) in
    children_low c.args.self.now c.args.id c.as_slice.result.now c.requires
    (ap (λ ids. branches_of (map (branch_from (size arena) (at arena)) ids)) same
    ∙ children_branches (at arena) (number arena) (size arena) c.args.self.now.whole c.args.id c.requires)
