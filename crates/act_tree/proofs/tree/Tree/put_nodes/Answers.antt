use Rattle.act_tree.proofs.StayingNodes.{LeadsStill, nodes_stay, stay_grafted, stay_stopped, same_stay}
use Rattle.std.proofs.Common.{◌≡◌, ◌≤◌, ◌∙◌, ap, subst, ℕ, List, Some}
use Rattle.act_tree.specs.Branches.{branches_of, heights}
use Rattle.act_tree.specs.Brought.{bringer, brought}
use Rattle.act_tree.specs.Eids.{all_enacted}
use Rattle.act_tree.specs.declared.surveying.TheConstants.{NONE_THROUGHOUT}
use Rattle.act_tree.specs.Arena.{IsWhole}
use Rattle.act_tree.specs.Grafted.{IsGrafted}
use Rattle.act_tree.specs.Planted.{HasGrown}
use Rattle.act_tree.specs.Seen.{tree_view, has_node, provision_at, children_at}
use Rattle.act_tree.specs.Slots.{at, number, size}
use Rattle.act_tree.specs.Trees.{TreeValue}
use Rattle.act_tree.specs.Wids.{all_wids}
use Rattle.act_tree.proofs.BroughtWids.{brought_differ, brought_apart}
use Rattle.act_tree.proofs.GraftedTrees.{regrown, left_whole, body_of}
use Rattle.act_tree.proofs.Grown.{on_ok_map, on_err_map, either_way}
use Rattle.act_tree.proofs.SlotsOfNodes.{node_within}
use Rattle.act_tree.specs.declared.limits.TheConstants.{MAX_DEPTH}
use Rattle.act_tree.proofs.LowTexts.{as_low}
use Rattle.act_tree.proofs.tree.Tree.put_nodes.Goals as goal

pub graft-requires-clause-within : goal.graft-requires-clause-within
graft-requires-clause-within c = node_within c.args.self.now c.args.parent c.requires.node

pub graft-requires-clause-place : goal.graft-requires-clause-place
unfolding children_at
graft-requires-clause-place c = c.requires.place

pub invariant_of-self : goal.invariant_of-self
unfolding has_node tree_view provision_at
invariant_of-self c =
    let old = c.args.self.now.arena in
    let new = c.graft.new.self in
    let name : c.as_str.result.now ≡ bringer c.args.by = c.as_str.ensures ∙ c.in_ok-name.ensures in
    let P : List ℕ → Type 0 = λ n. IsGrafted old new c.args.parent c.args.place (all_enacted NONE_THROUGHOUT (Some n) (branches_of c.args.nodes.now)) in
    let Q : List ℕ → Type 0 = λ n. HasGrown old new (all_wids (all_enacted NONE_THROUGHOUT (Some n) (branches_of c.args.nodes.now))) in
    let fresh = brought_apart c.args.by (branches_of c.args.nodes.now) (body_of old) c.requires.fresh in
    record {
      whole = either_way c.graft.result _ _ (IsWhole (at new) (number new) (size new))
          (λ is. (regrown old new c.args.parent c.args.place (brought c.args.by (branches_of c.args.nodes.now)) c.args.self.now.whole c.requires.node (subst P name is)
          (brought_differ c.args.by (branches_of c.args.nodes.now) c.requires.payload) fresh).holds.whole)
          (λ is. (left_whole old new (all_wids (brought c.args.by (branches_of c.args.nodes.now))) c.args.self.now.whole (subst Q name is) fresh).whole)
          c.graft.ensures.grafted c.graft.ensures.kept;
      low = either_way c.graft.result _ _ (heights (body_of new) ≤ MAX_DEPTH)
          (λ is. as_low MAX_DEPTH _ _ (regrown old new c.args.parent c.args.place (brought c.args.by (branches_of c.args.nodes.now)) c.args.self.now.whole c.requires.node (subst P name is)
          (brought_differ c.args.by (branches_of c.args.nodes.now) c.requires.payload) fresh).holds.reads c.requires.depth)
          (λ is. as_low MAX_DEPTH _ _ (left_whole old new (all_wids (brought c.args.by (branches_of c.args.nodes.now))) c.args.self.now.whole (subst Q name is) fresh).reads c.args.self.now.low)
          c.graft.ensures.grafted c.graft.ensures.kept;
    }

pub returns-clause-tree : goal.returns-clause-tree
unfolding has_node tree_view provision_at
returns-clause-tree c =
    let old = c.args.self.now.arena in
    let new = c.graft.new.self in
    let name : c.as_str.result.now ≡ bringer c.args.by = c.as_str.ensures ∙ c.in_ok-name.ensures in
    let P : List ℕ → Type 0 = λ n. IsGrafted old new c.args.parent c.args.place (all_enacted NONE_THROUGHOUT (Some n) (branches_of c.args.nodes.now)) in
    let fresh = brought_apart c.args.by (branches_of c.args.nodes.now) (body_of old) c.requires.fresh in
    on_ok_map c.graft.result _ _
    (λ is. ap {B = TreeValue} (λ body. record { numbering = c.args.self.now.numbering; limit = c.args.self.now.limit; body = body; changes = c.args.self.now.changes })
    (regrown old new c.args.parent c.args.place (brought c.args.by (branches_of c.args.nodes.now)) c.args.self.now.whole c.requires.node (subst P name is)
    (brought_differ c.args.by (branches_of c.args.nodes.now) c.requires.payload) fresh).holds.reads)
    c.graft.ensures.grafted

pub returns-clause-nodes : goal.returns-clause-nodes
unfolding has_node tree_view
returns-clause-nodes c =
    let old = c.args.self.now.arena in
    let new = c.graft.new.self in
    let name : c.as_str.result.now ≡ bringer c.args.by = c.as_str.ensures ∙ c.in_ok-name.ensures in
    let P : List ℕ → Type 0 = λ n. IsGrafted old new c.args.parent c.args.place (all_enacted NONE_THROUGHOUT (Some n) (branches_of c.args.nodes.now)) in
    let fresh = brought_apart c.args.by (branches_of c.args.nodes.now) (body_of old) c.requires.fresh in
    on_ok_map c.graft.result _ _
    (λ is. (regrown old new c.args.parent c.args.place (brought c.args.by (branches_of c.args.nodes.now)) c.args.self.now.whole c.requires.node (subst P name is)
    (brought_differ c.args.by (branches_of c.args.nodes.now) c.requires.payload) fresh).nodes)
    c.graft.ensures.grafted

pub returns-clause-says : goal.returns-clause-says
unfolding has_node tree_view provision_at
returns-clause-says c =
    let old = c.args.self.now.arena in
    let new = c.graft.new.self in
    let name : c.as_str.result.now ≡ bringer c.args.by = c.as_str.ensures ∙ c.in_ok-name.ensures in
    let P : List ℕ → Type 0 = λ n. IsGrafted old new c.args.parent c.args.place (all_enacted NONE_THROUGHOUT (Some n) (branches_of c.args.nodes.now)) in
    let fresh = brought_apart c.args.by (branches_of c.args.nodes.now) (body_of old) c.requires.fresh in
    on_ok_map c.graft.result _ _
    (λ is. (regrown old new c.args.parent c.args.place (brought c.args.by (branches_of c.args.nodes.now)) c.args.self.now.whole c.requires.node (subst P name is)
    (brought_differ c.args.by (branches_of c.args.nodes.now) c.requires.payload) fresh).says)
    c.graft.ensures.grafted

pub returns-clause-kept : goal.returns-clause-kept
unfolding has_node tree_view
returns-clause-kept c =
    let old = c.args.self.now.arena in
    let new = c.graft.new.self in
    let name : c.as_str.result.now ≡ bringer c.args.by = c.as_str.ensures ∙ c.in_ok-name.ensures in
    let Q : List ℕ → Type 0 = λ n. HasGrown old new (all_wids (all_enacted NONE_THROUGHOUT (Some n) (branches_of c.args.nodes.now))) in
    let fresh = brought_apart c.args.by (branches_of c.args.nodes.now) (body_of old) c.requires.fresh in
    on_err_map c.graft.result _ _
    (λ is. ap {B = TreeValue} (λ body. record { numbering = c.args.self.now.numbering; limit = c.args.self.now.limit; body = body; changes = c.args.self.now.changes })
    (left_whole old new (all_wids (brought c.args.by (branches_of c.args.nodes.now))) c.args.self.now.whole (subst Q name is) fresh).reads)
    c.graft.ensures.kept

pub returns-in_err-name-clause-stay : goal.returns-in_err-name-clause-stay
returns-in_err-name-clause-stay c = same_stay c.args.self.now

pub returns-clause-stay : goal.returns-clause-stay
unfolding tree_view
returns-clause-stay c =
    let old = c.args.self.now.arena in
    let new = c.graft.new.self in
    let name : c.as_str.result.now ≡ bringer c.args.by = c.as_str.ensures ∙ c.in_ok-name.ensures in
    let P : List ℕ → Type 0 = λ n. IsGrafted old new c.args.parent c.args.place (all_enacted NONE_THROUGHOUT (Some n) (branches_of c.args.nodes.now)) in
    let Q : List ℕ → Type 0 = λ n. HasGrown old new (all_wids (all_enacted NONE_THROUGHOUT (Some n) (branches_of c.args.nodes.now))) in
    let fresh = brought_apart c.args.by (branches_of c.args.nodes.now) (body_of old) c.requires.fresh in
    nodes_stay c.args.self.now _
    (either_way c.graft.result _ _ (LeadsStill old new)
    (λ is. stay_grafted old new c.args.parent c.args.place (brought c.args.by (branches_of c.args.nodes.now)) c.args.self.now.whole fresh (subst P name is))
    (λ is. stay_stopped old new (all_wids (brought c.args.by (branches_of c.args.nodes.now))) c.args.self.now.whole fresh (subst Q name is))
    c.graft.ensures.grafted c.graft.ensures.kept)
