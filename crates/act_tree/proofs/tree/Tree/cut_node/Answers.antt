use Rattle.act_tree.proofs.StayingNodes.{counted, same_stay}
use Rattle.std.proofs.Common.{◌∙◌, ap, List, ℕ}
use Rattle.act_tree.specs.Changes.{changed, is_in, parted}
use Rattle.act_tree.specs.Seen.{tree_view, provision_at, children_at}
use Rattle.act_tree.specs.Trees.{changed_once}
use Rattle.act_tree.proofs.PartedNodes.{not_brought}
use Rattle.act_tree.proofs.SlotsOfNodes.{node_within}
use Rattle.act_tree.proofs.tree.Tree.cut_node.Goals as goal

pub second_part-requires : goal.second_part-requires
second_part-requires g c = record { within = node_within c.args.self.now c.args.id c.requires.node }

pub below_behind-requires-clause-within : goal.below_behind-requires-clause-within
below_behind-requires-clause-within g c = node_within c.args.self.now c.args.id c.requires.node

pub below_behind-requires-clause-place : goal.below_behind-requires-clause-place
unfolding children_at
below_behind-requires-clause-place g c = c.requires.place

pub part-requires-clause-place : goal.part-requires-clause-place
unfolding children_at
part-requires-clause-place g c = c.requires.place

pub part-requires-clause-moved : goal.part-requires-clause-moved
unfolding children_at
part-requires-clause-moved g c = c.in_ok-moved.ensures

pub part-requires-clause-fresh : goal.part-requires-clause-fresh
part-requires-clause-fresh g c =
    ap (λ p. is_in p.wid (tree_view c.args.self.now).body) c.in_ok-second.ensures.provision
    ∙ not_brought c.args.by _ c.args.num (tree_view c.args.self.now).body c.requires.fresh

pub returns-clause-tree : goal.returns-clause-tree
unfolding provision_at
returns-clause-tree g c =
    let old = tree_view c.args.self.now in
    let wid : List ℕ = (provision_at c.args.self.now c.args.id).wid in
    c.count_change.ensures.tree
    ∙ ap (λ v. changed_once v v.body) c.in_ok-part.ensures.tree
    ∙ ap (λ p. changed_once old (changed (parted c.args.first_child c.args.head p) wid old.body)) c.in_ok-second.ensures.provision

pub returns-in_err-moved-clause-stay : goal.returns-in_err-moved-clause-stay
returns-in_err-moved-clause-stay g c = same_stay c.args.self.now

pub returns-in_err-second-clause-stay : goal.returns-in_err-second-clause-stay
returns-in_err-second-clause-stay g c = same_stay c.args.self.now

pub returns-clause-stay : goal.returns-clause-stay
returns-clause-stay g c =
    counted c.args.self.now c.part.new.self c.count_change.new.self _ c.in_ok-part.ensures.stay c.count_change.ensures.tree c.count_change.ensures.nodes c.count_change.ensures.says
