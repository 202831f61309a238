-- The nodes that pairs name.
use Rattle.std.proofs.Common.{◌≡◌, ◌∙◌, sym, ap, refl, ℕ, ◌+◌, ◌<◌, ◌==◌, true, cond, List, [], ◌∷◌, ◌++◌, length, map, take, get_or, Some, inl, inr}
use Rattle.std.specs.List.{All, list_all}
use Rattle.std.proofs.lemmas.Bool.{cases_Bool, eqb-true, eq-eqb}
use Rattle.std.proofs.lemmas.List.{map-append, take_more}
use Rattle.std.proofs.lemmas.List.Elements.{All-head, All-tail}
use Rattle.eid_paths.specs.Nums.{is_num}
use Rattle.act_tree.specs.Changes.{num_given}
use Rattle.act_tree.specs.declared.tree.Tree.{Tree}
use Rattle.act_tree.specs.Seen.{has_node, provision_at, nums_by_wid}
use Rattle.act_tree.specs.Slots.{number}
use Rattle.act_tree.proofs.Nums.{both}
use Rattle.act_tree.proofs.StayingNodes.{leads_node}
use Rattle.act_tree.proofs.Texts.{equal_text, other_text}
use Rattle.textual_mods.specs.NumChanges.{num_by_node}
use Rattle.textual_mods.specs.declared.num_changes.NumChange.{NumChange}

-- nodes of one wId are one
pub same_node : (t : Tree) (i j : ℕ) → has_node t i ≡ true → has_node t j ≡ true → (provision_at t i).wid ≡ (provision_at t j).wid → i ≡ j
unfolding has_node provision_at
same_node t i j one two same =
    let found : Some i ≡ Some j = sym (leads_node t.arena t.whole i one) ∙ ap (number t.arena) same ∙ leads_node t.arena t.whole j two in
    cc

-- pairs of a node and a num give a node what they give its wId
pub by_node : (t : Tree) (named : List (ℕ × List ℕ)) (id : ℕ) (num : List ℕ) → All (λ pair. has_node t pair.0 ≡ true) named → has_node t id ≡ true
    → num_by_node named id num ≡ num_given (nums_by_wid t named) (provision_at t id).wid num
by_node t [] id num nodes node = refl
by_node t (pair ∷ named) id num nodes node =
    let w : List ℕ = (provision_at t id).wid in
    let v : List ℕ = (provision_at t pair.0).wid in
    let head : has_node t pair.0 ≡ true = All-head (λ p. has_node t p.0 ≡ true) pair named nodes in
    let rest : num_by_node named id num ≡ num_given (nums_by_wid t named) w num = by_node t named id num (All-tail (λ p. has_node t p.0 ≡ true) pair named nodes) node in
    elim (cases_Bool (pair.0 == id)) [
      | inl it ↦
          ap (λ s. cond s pair.1 (num_by_node named id num)) it
          ∙ sym (ap (λ s. cond s pair.1 (num_given (nums_by_wid t named) w num)) (equal_text w v (ap (λ k. (provision_at t k).wid) (sym (eqb-true pair.0 id it)))))
      | inr other ↦
          ap (λ s. cond s pair.1 (num_by_node named id num)) other ∙ rest
          ∙ sym (ap (λ s. cond s pair.1 (num_given (nums_by_wid t named) w num)) (other_text w v (λ same. absurd (
          let it : (pair.0 == id) ≡ true = eq-eqb pair.0 id (sym (same_node t id pair.0 node head same)) in
          cc))))
    ]

-- the nodes of the changes so far, and of one more
pub one_noted : (changes : List NumChange) (change : NumChange) (named : List (ℕ × List ℕ)) (i : ℕ) (d : ℕ × List ℕ) → i < length named → change.id ≡ (get_or named i d).0
    → map (λ c. c.id) changes ≡ map (λ pair. pair.0) (take i named) → map (λ c. c.id) (changes ++ change ∷ []) ≡ map (λ pair. pair.0) (take (i + 1) named)
one_noted changes change named i d within it before =
    map-append (λ c. c.id) changes (change ∷ [])
    ∙ ap (λ ids. ids ++ change.id ∷ []) before
    ∙ ap (λ id. map (λ pair. pair.0) (take i named) ++ id ∷ []) it
    ∙ sym (ap (map (λ pair. pair.0)) (take_more named i d within) ∙ map-append (λ pair. pair.0) (take i named) (get_or named i d ∷ []))

-- nums that nodes get keep the rule of nums, and so do those that their wIds get
pub nums_by_wid_kept : (t : Tree) (named : List (ℕ × List ℕ)) → All (λ pair. is_num pair.1 ≡ true) named → list_all (λ pair. is_num pair.1) (nums_by_wid t named) ≡ true
nums_by_wid_kept t [] nums = refl
nums_by_wid_kept t (pair ∷ named) nums =
    both _ _ (All-head (λ p. is_num p.1 ≡ true) pair named nums) (nums_by_wid_kept t named (All-tail (λ p. is_num p.1 ≡ true) pair named nums))
