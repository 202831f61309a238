use Rattle.std.proofs.Common.{◌≡◌, ◌∙◌, sym, ap, subst, true, ℕ, List, map}
use Rattle.std.specs.List.{All}
use Rattle.act_tree.specs.Branches.{branches_of}
use Rattle.act_tree.specs.EidLevels.{levels_on}
use Rattle.act_tree.specs.Seen.{tree_view, has_node, branch_at, children_at}
use Rattle.act_tree.specs.Wids.{one_twice}
use Rattle.act_tree.proofs.LevelsNoted.{both_nodes, both_below}
use Rattle.act_tree.proofs.SlotsOfNodes.{node_within}
use Rattle.act_tree.proofs.tree.Tree.children_alike.Goals as goal

pub below_both-requires-clause-within : goal.below_both-requires-clause-within
below_both-requires-clause-within c = node_within c.args.self.now c.args.one c.requires.one

pub below_both-requires-clause-next : goal.below_both-requires-clause-next
below_both-requires-clause-next c = node_within c.args.self.now c.args.other c.requires.other

pub are_alike-requires : goal.are_alike-requires
unfolding children_at
are_alike-requires c =
    let P : List ℕ → Type 0 = λ ids. All (λ id. has_node c.args.self.now id ≡ true) ids in
    subst P (sym (c.as_slice.ensures.value ∙ c.in_ok-below.ensures)) (both_nodes c.args.self.now c.args.one c.args.other c.requires.one c.requires.other)

pub returns : goal.returns
unfolding children_at
returns c =
    let t = c.args.self.now in
    c.in_ok-alike.ensures
    ∙ ap (λ ids. one_twice (levels_on (tree_view t).numbering (branches_of (map (branch_at t) ids)))) (c.as_slice.ensures.value ∙ c.in_ok-below.ensures)
    ∙ ap (λ bs. one_twice (levels_on (tree_view t).numbering bs)) (both_below t c.args.one c.args.other c.requires.one c.requires.other)
