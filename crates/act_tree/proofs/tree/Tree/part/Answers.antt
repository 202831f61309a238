use Rattle.act_tree.proofs.StayingNodes.{LeadsStill, nodes_stay, stay_parted, stay_same}
use Rattle.std.proofs.Common.{ap, ◌≤◌}
use Rattle.act_tree.specs.Arena.{IsWhole}
use Rattle.act_tree.specs.Branches.{heights}
use Rattle.act_tree.specs.Changes.{parted}
use Rattle.act_tree.specs.Seen.{has_node, tree_view, provision_at, children_at}
use Rattle.act_tree.specs.Slots.{at, number, size, provision_of}
use Rattle.act_tree.specs.Trees.{TreeValue}
use Rattle.act_tree.proofs.GraftedTrees.{body_of}
use Rattle.act_tree.proofs.Grown.{on_ok_map, on_err_map, either_way}
use Rattle.act_tree.proofs.PartedNodes.{can_part, part_ends}
use Rattle.act_tree.specs.declared.limits.TheConstants.{MAX_DEPTH}
use Rattle.act_tree.proofs.LowTexts.{as_low, still_low, changed_low, parted_low}
use Rattle.act_tree.proofs.tree.Tree.part.Goals as goal

pub part-requires-clause-can : goal.part-requires-clause-can
unfolding has_node children_at
part-requires-clause-can c = can_part c.args.self.now.arena c.args.id c.args.self.now.whole c.requires.node c.requires.provision c.args.first_child c.args.moved.items c.requires.place c.requires.moved

pub invariant_of-self : goal.invariant_of-self
unfolding has_node tree_view children_at
invariant_of-self c =
    let old = c.args.self.now.arena in
    let new = c.part.new.self in
    let ends = part_ends c.part.result old new c.args.id c.args.first_child c.args.head (provision_of c.args.second) c.args.moved.items c.args.self.now.whole c.requires.node c.requires.provision c.requires.fresh c.requires.moved c.requires.num
    c.part.ensures.parted c.part.ensures.slots_kept c.part.ensures.numbers_kept in
    record {
      whole = either_way c.part.result _ _ (IsWhole (at new) (number new) (size new)) (λ is. is.whole) (λ is. is.whole) ends.0 ends.1;
      low = either_way c.part.result _ _ (heights (body_of new) ≤ MAX_DEPTH)
          (λ is. still_low MAX_DEPTH _ _ _ is.reads (changed_low (parted c.args.first_child c.args.head (provision_of c.args.second)) (parted_low c.args.first_child c.args.head (provision_of c.args.second)) _ _) c.args.self.now.low)
          (λ is. as_low MAX_DEPTH _ _ is.reads c.args.self.now.low)
          ends.0 ends.1;
    }

pub returns-clause-tree : goal.returns-clause-tree
unfolding has_node tree_view children_at provision_at
returns-clause-tree c =
    let old = c.args.self.now.arena in
    let new = c.part.new.self in
    let ends = part_ends c.part.result old new c.args.id c.args.first_child c.args.head (provision_of c.args.second) c.args.moved.items c.args.self.now.whole c.requires.node c.requires.provision c.requires.fresh c.requires.moved c.requires.num
    c.part.ensures.parted c.part.ensures.slots_kept c.part.ensures.numbers_kept in
    on_ok_map c.part.result _ _ (λ is. ap {B = TreeValue} (λ body. record { numbering = c.args.self.now.numbering; limit = c.args.self.now.limit; body = body; changes = c.args.self.now.changes }) is.reads) ends.0

pub returns-clause-kept : goal.returns-clause-kept
unfolding has_node tree_view children_at
returns-clause-kept c =
    let old = c.args.self.now.arena in
    let new = c.part.new.self in
    let ends = part_ends c.part.result old new c.args.id c.args.first_child c.args.head (provision_of c.args.second) c.args.moved.items c.args.self.now.whole c.requires.node c.requires.provision c.requires.fresh c.requires.moved c.requires.num
    c.part.ensures.parted c.part.ensures.slots_kept c.part.ensures.numbers_kept in
    on_err_map c.part.result _ _ (λ is. ap {B = TreeValue} (λ body. record { numbering = c.args.self.now.numbering; limit = c.args.self.now.limit; body = body; changes = c.args.self.now.changes }) is.reads) ends.1

pub returns-clause-stay : goal.returns-clause-stay
unfolding tree_view
returns-clause-stay c =
    let old = c.args.self.now.arena in
    let new = c.part.new.self in
    nodes_stay c.args.self.now _
    (either_way c.part.result _ _ (LeadsStill old new) (λ is. stay_parted old new c.args.id c.args.first_child c.args.head (provision_of c.args.second) c.args.moved.items c.args.self.now.whole c.requires.fresh is)
    (λ numbers. stay_same old new c.args.self.now.whole numbers) c.part.ensures.parted c.part.ensures.numbers_kept)
