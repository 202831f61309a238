-- The references of provisions, found one after another.
use Rattle.std.proofs.Common.{◌≡◌, ◌∙◌, sym, ap, ℕ, ◌+◌, ◌<◌, List, [], ◌∷◌, ◌++◌, map, drop, length, get_or, Option, Some}
use Rattle.std.proofs.lemmas.List.{append_assoc, append-nil, drop_more}
use Rattle.eid_paths.specs.declared.numbering.Numbering.{Numbering}
use Rattle.act_tree.specs.declared.tree.Tree.{Tree}
use Rattle.act_tree.specs.Branches.{Branch, Branches, branches_of, no_branches}
use Rattle.act_tree.specs.Eids.{eid_below}
use Rattle.act_tree.specs.Provisions.{Provision}
use Rattle.act_tree.specs.Seen.{below_at, branch_at, provision_at}
use Rattle.act_tree.proofs.Walking.{branch_is}
use Rattle.law_refs.specs.Missing.{all_branch_refs, branch_refs, refs_at}
use Rattle.law_refs.specs.declared.node_ref.NodeRef.{NodeRef}

-- those of a provision, and of all beneath it
pub refs_one : (t : Tree) (n : Numbering) (above : Option (List ℕ)) (id : ℕ) (eid name : List ℕ) (refs : List (List ℕ)) (kids : Branches Provision)
    (before own after : List NodeRef)
    → eid ≡ eid_below n above (provision_at t id).own.element (provision_at t id).own.num → refs ≡ (provision_at t id).own.refs
    → own ≡ before ++ refs_at eid refs → name ≡ eid → kids ≡ below_at t id → after ≡ own ++ all_branch_refs n (Some name) kids
    → after ≡ before ++ branch_refs n above (branch_at t id)
refs_one t n above id eid name refs kids before own after is says put named under then =
    let p : Provision = provision_at t id in
    let e : List ℕ = eid_below n above p.own.element p.own.num in
    then
    ∙ ap (λ (x : List NodeRef). x ++ all_branch_refs n (Some name) kids) (put ∙ ap (λ (rs : List (List ℕ)). before ++ refs_at eid rs) says)
    ∙ append_assoc before (refs_at eid p.own.refs) (all_branch_refs n (Some name) kids)
    ∙ ap (λ (x : List NodeRef). before ++ (refs_at eid p.own.refs ++ x))
    (ap (λ (w : List ℕ). all_branch_refs n (Some w) kids) named ∙ ap (all_branch_refs n (Some eid)) under)
    ∙ ap (λ (w : List ℕ). before ++ (refs_at w p.own.refs ++ all_branch_refs n (Some w) (below_at t id))) is
    ∙ sym (ap (λ (b : Branch Provision). before ++ branch_refs n above b) (branch_is t id))

-- none of a provision that has no reference and no provision beneath it
pub refs_none : (t : Tree) (n : Numbering) (above : Option (List ℕ)) (id : ℕ) (before : List NodeRef)
    → (provision_at t id).own.refs ≡ [] → below_at t id ≡ no_branches → before ≡ before ++ branch_refs n above (branch_at t id)
refs_none t n above id before none bare =
    let p : Provision = provision_at t id in
    let e : List ℕ = eid_below n above p.own.element p.own.num in
    sym (append-nil before)
    ∙ ap (λ (rs : List (List ℕ)). before ++ (refs_at e rs ++ all_branch_refs n (Some e) no_branches)) (sym none)
    ∙ ap (λ (bs : Branches Provision). before ++ (refs_at e p.own.refs ++ all_branch_refs n (Some e) bs)) (sym bare)
    ∙ sym (ap (λ (b : Branch Provision). before ++ branch_refs n above b) (branch_is t id))

-- one provision more
pub refs_more : (t : Tree) (n : Numbering) (above : Option (List ℕ)) (ids : List ℕ) (i id : ℕ) (before after whole : List NodeRef)
    → i < length ids → id ≡ get_or ids i id → after ≡ before ++ branch_refs n above (branch_at t id)
    → before ++ all_branch_refs n above (branches_of (map (branch_at t) (drop i ids))) ≡ whole
    → after ++ all_branch_refs n above (branches_of (map (branch_at t) (drop (i + 1) ids))) ≡ whole
refs_more t n above ids i id before after whole within at one rest =
    let left : List ℕ → List NodeRef = λ js. all_branch_refs n above (branches_of (map (branch_at t) js)) in
    ap (λ (x : List NodeRef). x ++ left (drop (i + 1) ids)) one
    ∙ append_assoc before (branch_refs n above (branch_at t id)) (left (drop (i + 1) ids))
    ∙ ap (λ (js : List ℕ). before ++ left js) (ap (λ (j : ℕ). j ∷ drop (i + 1) ids) at ∙ sym (drop_more ids i id within))
    ∙ rest
