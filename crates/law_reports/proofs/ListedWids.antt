-- The wIds of nodes side by side.
use Rattle.std.proofs.Common.{◌≡◌, ◌∙◌, sym, ap, ℕ, ◌+◌, ◌<◌, List, [], ◌∷◌, ◌++◌, map, drop, get_or, length, append_assoc}
use Rattle.act_tree.specs.declared.tree.Tree.{Tree}
use Rattle.act_tree.specs.Branches.{Branches, branches_of}
use Rattle.act_tree.specs.Provisions.{Provision}
use Rattle.act_tree.specs.Seen.{branch_at, below_at, provision_at}
use Rattle.act_tree.specs.Wids.{all_wids}
use Rattle.act_tree.proofs.Walking.{nodes_from}

-- those from one node on are its own, those beneath it, and those of the nodes after it
pub wids_from : (t : Tree) (ids : List ℕ) (i id : ℕ) (kids : Branches Provision) → i < length ids → id ≡ get_or ids i id → kids ≡ below_at t id
    → all_wids (branches_of (map (branch_at t) (drop i ids)))
    ≡ (provision_at t id).wid ∷ (all_wids kids ++ all_wids (branches_of (map (branch_at t) (drop (i + 1) ids))))
wids_from t ids i id kids within at under =
    let rest : List (List ℕ) = all_wids (branches_of (map (branch_at t) (drop (i + 1) ids))) in
    ap all_wids (nodes_from t ids i id within)
    ∙ ap (λ j. (provision_at t j).wid ∷ (all_wids (below_at t j) ++ rest)) (sym at)
    ∙ ap (λ bs. (provision_at t id).wid ∷ (all_wids bs ++ rest)) (sym under)

-- what is gathered, with the wIds that are left, stays so as one node is passed: its own wId is gathered, and those beneath it
pub wids_kept : (t : Tree) (ids : List ℕ) (i id : ℕ) (kids : Branches Provision) (old pushed new all : List (List ℕ)) (wid : List ℕ)
    → i < length ids → id ≡ get_or ids i id → kids ≡ below_at t id → wid ≡ (provision_at t id).wid
    → pushed ≡ old ++ wid ∷ [] → new ≡ pushed ++ all_wids kids
    → old ++ all_wids (branches_of (map (branch_at t) (drop i ids))) ≡ all
    → new ++ all_wids (branches_of (map (branch_at t) (drop (i + 1) ids))) ≡ all
wids_kept t ids i id kids old pushed new all wid within at under named push more kept =
    let rest : List (List ℕ) = all_wids (branches_of (map (branch_at t) (drop (i + 1) ids))) in
    ap (λ ws. ws ++ rest) (more ∙ ap (λ ws. ws ++ all_wids kids) (push ∙ ap (λ w. old ++ w ∷ []) named))
    ∙ append_assoc (old ++ (provision_at t id).wid ∷ []) (all_wids kids) rest
    ∙ append_assoc old ((provision_at t id).wid ∷ []) (all_wids kids ++ rest)
    ∙ ap (λ ws. old ++ ws) (sym (wids_from t ids i id kids within at under))
    ∙ kept
