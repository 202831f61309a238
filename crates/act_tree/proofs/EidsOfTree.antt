-- The eIds of the nodes of a tree.
use Rattle.std.proofs.Common.{IfSome, is_some, ◌≡◌, ◌∙◌, sym, ap, refl, subst, ℕ, true, false, List, get_or, Option, Some, None, option_map, cond, nat_lt, inl, inr}
use Rattle.std.proofs.lemmas.Bool.{cases_Bool}
use Rattle.std.specs.List.{All}
use Rattle.act_tree.specs.declared.limits.TheConstants.{MAX_DEPTH}
use Rattle.act_tree.specs.declared.limits.NodeLimit.{NodeLimit}
use Rattle.act_tree.specs.NodeLimits.{most_nodes}
use Rattle.act_tree.specs.declared.build_fault.BuildFault.TheVariants.{EidTwice, TooDeep, TooManyNodes, TextTooLong}
use Rattle.eid_paths.specs.declared.numbering.Numbering.{Numbering}
use Rattle.act_tree.specs.declared.tree.Tree.{Tree}
use Rattle.act_tree.specs.Arena.{provision_in, above_in, below_in, branches_below}
use Rattle.act_tree.specs.Branches.{Branches, heights, counts}
use Rattle.act_tree.specs.Eids.{eid_below}
use Rattle.act_tree.specs.EidsOfWids.{has_eid}
use Rattle.act_tree.specs.EidsOfNodes.{eid_up, eid_at, IsNodeOf}
use Rattle.act_tree.specs.Faults.{all_owns, all_eids, have_long, first_fault, fault_cause, first_cause}
use Rattle.act_tree.specs.Seen.{tree_view, has_node, provision_at, children_at}
use Rattle.act_tree.specs.Slots.{at, number, size}
use Rattle.act_tree.specs.Wids.{is_among, one_twice}
use Rattle.act_tree.proofs.EidsDiffer.{node_eid, eid_among, one_among, body_lower, node_held, children_hang}
use Rattle.act_tree.proofs.GoingUp.{eid_root}
use Rattle.act_tree.proofs.TreeNodes.{children_climb}
use Rattle.act_tree.proofs.Ways.{eid_up_is, has_eid_is}

-- the eId of a node that stands below the eId `above`, or right below the root where that is `None`
abbrev pub eid_under : Tree → Option (List ℕ) → ℕ → List ℕ
eid_under t above id =
    eid_below (tree_view t).numbering above (provision_at t id).own.element (provision_at t id).own.num

-- these are nodes that stand below the eId `above`
abbrev pub AreUnder : Tree → Option (List ℕ) → List ℕ → Type 0
AreUnder t above ids = All (λ id. IsNodeOf t (eid_under t above id) id) ids

-- the children of a node stand below its eId
pub children_under : (t : Tree) (i : ℕ) → has_node t i ≡ true → AreUnder t (eid_at t i) (children_at t i)
unfolding has_node children_at provision_at tree_view
children_under t i node = λ k d within.
    let id : ℕ = get_or (below_in (at t.arena i)) k d in
    let climbs_too = children_climb (at t.arena) (number t.arena) (size t.arena) t.whole i node k d within in
    let hang : (above_in (at t.arena id) ≡ i) × (id ≡ 0 → ⊥) = children_hang (at t.arena) (number t.arena) (size t.arena) t.whole t.numbering i node k d within in (
      climbs_too,
      (
        hang.1,
        eid_up_is t id climbs_too
            ∙ node_eid (at t.arena) (number t.arena) (size t.arena) t.whole t.numbering id climbs_too hang.1
            ∙ ap (λ u. Some (eid_below t.numbering (eid_up (size t.arena) t.numbering (at t.arena) u) (provision_in (at t.arena id)).own.element (provision_in (at t.arena id)).own.num)) hang.0
            ∙ ap (λ a. Some (eid_below t.numbering a (provision_in (at t.arena id)).own.element (provision_in (at t.arena id)).own.num)) (sym (eid_up_is t i node)),
      ),
    )

-- the eId of a node is one of the text
pub node_among : (t : Tree) (i : ℕ) (e : List ℕ) → IsNodeOf t e i → is_among e (all_eids (tree_view t).numbering None (all_owns (tree_view t).body)) ≡ true
unfolding has_node tree_view
node_among t i e node =
    let body : Branches _ = branches_below (size t.arena) (at t.arena) (below_in (at t.arena 0)) in
    let held : (w : List ℕ) × _ = node_held (at t.arena) (number t.arena) (size t.arena) t.whole t.numbering i node.0 node.1.0 in
    sym (ap (λ o. is_among e (all_eids t.numbering o (all_owns body))) (eid_root (size t.arena) t.numbering (at t.arena) 0 refl))
    ∙ eid_among (at t.arena) (number t.arena) (size t.arena) t.whole t.numbering body 0 i held.0 e (below_in (at t.arena 0)) t.whole.stands.1.1
    (body_lower (at t.arena) (number t.arena) (size t.arena) t.whole t.numbering) held.1.0 held.1.1 (sym (eid_up_is t i node.0) ∙ node.1.1)

-- in a tree with no fault, the eIds of the text differ
faultless_once : (n : Numbering) (limit : NodeLimit) (bs : Branches _) → option_map fault_cause (first_fault n limit bs) ≡ None → one_twice (all_eids n None bs) ≡ false
faultless_once n limit bs none =
    elim (cases_Bool (one_twice (all_eids n None bs))) [
      | inl twice ↦ absurd (let told : option_map fault_cause (first_fault n limit bs) ≡ Some (fault_cause EidTwice) =
          ap (λ t. option_map fault_cause (cond t (Some EidTwice) (cond (nat_lt MAX_DEPTH (heights bs)) (Some TooDeep) (cond (nat_lt (most_nodes limit) (counts bs)) (Some TooManyNodes) (cond (have_long bs) (Some TextTooLong) None))))) twice in cc)
      | inr once ↦ once
    ]

-- in a well-formed tree, one node at most has an eId
pub one_has_eid : (t : Tree) (i j : ℕ) (e : List ℕ) → first_cause (tree_view t) ≡ None → IsNodeOf t e i → IsNodeOf t e j → i ≡ j
unfolding has_node tree_view
one_has_eid t i j e none one other =
    let body : Branches _ = branches_below (size t.arena) (at t.arena) (below_in (at t.arena 0)) in
    let first : (w : List ℕ) × _ = node_held (at t.arena) (number t.arena) (size t.arena) t.whole t.numbering i one.0 one.1.0 in
    let second : (w : List ℕ) × _ = node_held (at t.arena) (number t.arena) (size t.arena) t.whole t.numbering j other.0 other.1.0 in
    one_among (at t.arena) (number t.arena) (size t.arena) t.whole t.numbering body 0 i j first.0 second.0 e (below_in (at t.arena 0)) t.whole.stands.1.1
    (body_lower (at t.arena) (number t.arena) (size t.arena) t.whole t.numbering)
    (ap (λ o. one_twice (all_eids t.numbering o (all_owns body))) (eid_root (size t.arena) t.numbering (at t.arena) 0 refl) ∙ faultless_once t.numbering t.limit (all_owns body) none)
    first.1.0 first.1.1 (sym (eid_up_is t i one.0) ∙ one.1.1) second.1.0 second.1.1 (sym (eid_up_is t j other.0) ∙ other.1.1)

-- the children of a node stand below the eId that it has
pub children_of : (t : Tree) (id : ℕ) (above : Option (List ℕ)) (children : List ℕ) → has_node t id ≡ true → above ≡ eid_at t id → children ≡ children_at t id → AreUnder t above children
children_of t id above children node is are =
    let P : Option (List ℕ) → Type 0 = λ a. AreUnder t a (children_at t id) in
    let Q : List ℕ → Type 0 = λ ids. AreUnder t above ids in
    subst Q (sym are) (subst P (sym is) (children_under t id node))

-- what was found as a node of an eId is there
pub found_among : (t : Tree) (e : List ℕ) (o : Option ℕ) → IfSome o (IsNodeOf t e) → is_some o ≡ true → is_some o ≡ has_eid e (tree_view t)
found_among t e None node some = absurd (let h : false ≡ true = some in cc)
found_among t e (Some i) node some = sym (has_eid_is t e ∙ node_among t i e node)
