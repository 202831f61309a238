-- No two provisions of a tree have one wId: the index leads from a wId to one number, and the way up from a number is one.
use Rattle.std.proofs.Common.{◌≡◌, ◌∙◌, sym, ap, refl, ℕ, zero, suc, ◌+◌, ◌-◌, ◌<◌, ◌≤◌, ◌==◌, true, false, ◌&&◌, List, [], ◌∷◌, Option, Some, ◌⊎◌, inl, inr, arith}
use Rattle.std.specs.List.{list_any}
use Rattle.std.specs.Str.{bytes_eq}
use Rattle.std.proofs.lemmas.Bool.{cases_Bool, cases_order, or_cases, and_parts, eq-eqb, eqb-true}
use Rattle.std.proofs.Math.Nat.{zero-add, suc-add}
use Rattle.act_tree.specs.Arena.{Laid, provision_in, above_in, below_in, branches_below, branch_from, hangs_on, climbs, number_twice, Stands, StandAll, IsWhole}
use Rattle.act_tree.specs.Branches.{Branch, Branches, branch, no_branches, more_branches}
use Rattle.act_tree.specs.Changes.{holds, any_holds, root_wid}
use Rattle.act_tree.specs.Provisions.{Provision}
use Rattle.act_tree.specs.Seen.{tree_view}
use Rattle.act_tree.specs.Slots.{at, number, size}
use Rattle.act_tree.specs.Wids.{wids, all_wids, is_among, one_twice}
use Rattle.act_tree.specs.declared.tree.Tree.{Tree}
use Rattle.act_tree.proofs.Climbing.{has_number}
use Rattle.act_tree.proofs.Frames.{or_left, or_right, none_left, none_right, neither, once_together}
use Rattle.act_tree.proofs.PutIn.{wids_held, all_wids_held, not_beneath}
use Rattle.act_tree.proofs.SiblingNodes.{IsChild, listed_child}
use Rattle.act_tree.proofs.Standing.{stands_below}
use Rattle.act_tree.proofs.Texts.{same_text}
use Rattle.act_tree.proofs.TreeNodes.{root_climbs}

module _ (at : ℕ → Option Laid) (number : List ℕ → Option ℕ) (size : ℕ) (whole : IsWhole at number size) where
  -- the number so many steps up from another
  abbrev up : ℕ → ℕ → ℕ
  up zero i = i
  up (suc steps) i = up steps (above_in (at i))

  up_more : (m n i : ℕ) → up (m + n) i ≡ up n (up m i)
  up_more zero n i = ap (λ k. up k i) (zero-add n)
  up_more (suc m) n i = ap (λ k. up k i) (suc-add m n) ∙ up_more m n (above_in (at i))

  root_above : above_in (at 0) ≡ 0
  root_above = ap above_in whole.stands.0

  up_root : (steps : ℕ) → up steps 0 ≡ 0
  up_root zero = refl
  up_root (suc steps) = ap (up steps) root_above ∙ up_root steps

  -- who climbs comes to the root
  up_climbs : (steps i : ℕ) → climbs steps at i ≡ true → up steps i ≡ 0
  up_climbs zero i climbed = absurd cc
  up_climbs (suc steps) i climbed =
      elim (or_cases (i == 0) (hangs_on i (at i) && climbs steps at (above_in (at i))) climbed) [
        | inl root ↦ ap (up (suc steps)) (eqb-true i 0 root) ∙ up_root (suc steps)
        | inr on ↦ up_climbs steps (above_in (at i)) (and_parts _ _ on).1
      ]

  module _ (u c r : ℕ) (way : up r u ≡ c) (above : above_in (at c) ≡ u) where
    round : up (r + 1) u ≡ u
    round = up_more r 1 u ∙ ap (λ i. above_in (at i)) way ∙ above

    rounds : (t : ℕ) → (n : ℕ) × ((t ≤ n) × (up n u ≡ u))
    rounds zero = (0, (omega arith, refl))
    rounds (suc t) =
        let before : (n : ℕ) × ((t ≤ n) × (up n u ≡ u)) = rounds t in
        let low : t ≤ before.0 = before.1.0 in
        (before.0 + (r + 1), (omega arith, up_more before.0 (r + 1) u ∙ ap (up (r + 1)) before.1.1 ∙ round))

    -- the way up from a node never comes to one right below it
    no_round : climbs size at u ≡ true → (c ≡ 0 → ⊥) → ⊥
    no_round climbed other =
        let far : (n : ℕ) × ((size ≤ n) × (up n u ≡ u)) = rounds size in
        let split : far.0 ≡ size + (far.0 - size) = (let low : size ≤ far.0 = far.1.0 in omega arith) in
        let root : u ≡ 0 = sym far.1.1 ∙ ap (λ n. up n u) split ∙ up_more size (far.0 - size) u ∙ ap (up (far.0 - size)) (up_climbs size u climbed) ∙ up_root (far.0 - size) in
        other (sym way ∙ ap (up r) root ∙ up_root r)

  -- no node stands right below one of those right below it
  pub not_below_child : (u j : ℕ) → climbs size at u ≡ true → list_any (λ k. k == j) (below_in (at u)) ≡ true → list_any (λ k. k == u) (below_in (at j)) ≡ true → ⊥
  not_below_child u j climbed found back =
      let child : IsChild at number size whole u j = listed_child at number size whole u j climbed found in
      let again : IsChild at number size whole j u = listed_child at number size whole j u child.climbed back in
      no_round u j 1 again.above child.above climbed child.other

  -- the number of a wId that stands at or beneath a branch comes up to the number of the branch
  pub record ComesUp (i k : ℕ) : Type 0 where
    pub steps : ℕ
    pub way : up steps i ≡ k

  -- it comes up to one of these numbers, right above which is another
  record ComesAmong (i u : ℕ) (ids : List ℕ) : Type 0 where
    pub to : ℕ
    pub steps : ℕ
    pub way : up steps i ≡ to
    pub above : above_in (at to) ≡ u
    pub listed : list_any (λ j. j == to) ids ≡ true

  mutual
    comes_up : (b : Branch Provision) (u k i : ℕ) (w : List ℕ) → Stands at number u k b → holds w b ≡ true → number w ≡ Some i → ComesUp i k
    comes_up (branch p below) u k i w s held leads =
        elim (or_cases (bytes_eq p.wid w) (any_holds w below) held) [
          | inl it ↦
              let one : Some i ≡ Some k = sym leads ∙ ap number (sym (same_text p.wid w it)) ∙ s.1.0 in
              record { steps = 0; way = (let same : i ≡ k = cc in same) }
          | inr beneath ↦
              let among : ComesAmong i k (below_in (at k)) = comes_among below k i w (below_in (at k)) s.1.1 beneath leads in
              record { steps = among.steps + 1; way = up_more among.steps 1 i ∙ ap (λ j. above_in (at j)) among.way ∙ among.above }
        ]

    comes_among : (bs : Branches Provision) (u i : ℕ) (w : List ℕ) (ids : List ℕ) → StandAll at number u ids bs → any_holds w bs ≡ true → number w ≡ Some i → ComesAmong i u ids
    comes_among no_branches u i w ids s held leads = absurd cc
    comes_among (more_branches b bs) u i w [] s held leads = absurd s
    comes_among (more_branches b bs) u i w (k ∷ ids) s held leads =
        elim (or_cases (holds w b) (any_holds w bs) held) [
          | inl first ↦
              let one : ComesUp i k = comes_up b u k i w s.0 first leads in
              record { to = k; steps = one.steps; way = one.way; above = stands_below at number b u k s.0; listed = or_left _ _ (eq-eqb k k refl) }
          | inr later ↦
              let rest : ComesAmong i u ids = comes_among bs u i w ids s.1 later leads in
              record { to = rest.to; steps = rest.steps; way = rest.way; above = rest.above; listed = or_right (k == rest.to) _ rest.listed }
        ]

  -- the sibling that is come to later is come to from above the other
  later : (u i k j m n : ℕ) → m < n → up m i ≡ k → up n i ≡ j → above_in (at k) ≡ u → up (n - (m + 1)) u ≡ j
  later u i k j m n less first second above =
      let r : ℕ = n - (m + 1) in
      let split : m + (1 + (n - (m + 1))) ≡ n = omega arith in
      ap (up r) (sym above) ∙ sym (up_more 1 r k) ∙ ap (up (1 + r)) (sym first) ∙ sym (up_more m (1 + r) i) ∙ ap (λ x. up x i) split ∙ second

  -- of siblings, a number comes up to one alone
  one_sibling : (u i k j m n : ℕ) → climbs size at u ≡ true → up m i ≡ k → up n i ≡ j → above_in (at k) ≡ u → above_in (at j) ≡ u → (k ≡ 0 → ⊥) → (j ≡ 0 → ⊥) → k ≡ j
  one_sibling u i k j m n climbed to_k to_j above_k above_j k_other j_other =
      elim (cases_order m n) [
        | inl same ↦ sym to_k ∙ ap (λ x. up x i) same ∙ to_j
        | inr unlike ↦ elim unlike [
          | inl less ↦ absurd (no_round u j (n - (m + 1)) (later u i k j m n less to_k to_j above_k) above_j climbed j_other)
          | inr more ↦ absurd (no_round u k (m - (n + 1)) (later u i j k n m more to_j to_k above_j) above_k climbed k_other)
        ]
      ]

  -- no wId stands twice among those that stand below a node
  pub differ : (bs : Branches Provision) (u : ℕ) (ids : List ℕ) → climbs size at u ≡ true → StandAll at number u ids bs → number_twice ids ≡ false
      → ((j : ℕ) → list_any (λ x. x == j) ids ≡ true → list_any (λ x. x == j) (below_in (at u)) ≡ true) → one_twice (all_wids bs) ≡ false
  differ no_branches u ids climbed s once listed = refl
  differ (more_branches b bs) u [] climbed s once listed = absurd s
  differ (more_branches (branch p below) bs) u (k ∷ ids) climbed s once listed =
      let child : IsChild at number size whole u k = listed_child at number size whole u k climbed (listed k (or_left _ _ (eq-eqb k k refl))) in
      once_together (p.wid ∷ all_wids below) (all_wids bs)
      (neither (is_among p.wid (all_wids below)) _ (all_wids_held p.wid below ∙ not_beneath at number p below u k s.0)
      (differ below k (below_in (at k)) child.climbed s.0.1.1 (whole.once k) (λ j found. found)))
      (differ bs u ids climbed s.1 (none_right (list_any (λ j. j == k) ids) _ once) (λ j found. listed j (or_right (k == j) _ found)))
      (λ w found. apart w child (sym (wids_held w (branch p below)) ∙ found) (cases_Bool (is_among w (all_wids bs))))
    where
      apart : (w : List ℕ) → IsChild at number size whole u k → holds w (branch p below) ≡ true → (is_among w (all_wids bs) ≡ true) ⊎ (is_among w (all_wids bs) ≡ false) → is_among w (all_wids bs) ≡ false
      apart w child held (inr none) = none
      apart w child held (inl found) =
          let leads : (i : ℕ) × (number w ≡ Some i) = has_number at number (branch p below) w u k s.0 held in
          let one : ComesUp leads.0 k = comes_up (branch p below) u k leads.0 w s.0 held leads.1 in
          let other : ComesAmong leads.0 u ids = comes_among bs u leads.0 w ids s.1 (sym (all_wids_held w bs) ∙ found) leads.1 in
          let other_child : IsChild at number size whole u other.to = listed_child at number size whole u other.to climbed (listed other.to (or_right (k == other.to) _ other.listed)) in
          let same : k ≡ other.to = one_sibling u leads.0 k other.to one.steps other.steps climbed one.way other.way child.above other.above child.other other_child.other in
          absurd (let never : true ≡ false = sym other.listed ∙ ap (λ x. list_any (λ j. j == x) ids) (sym same) ∙ none_left (list_any (λ j. j == k) ids) _ once in cc)

  -- no wId stands twice in the text, and none is the root's
  pub text_differs : one_twice (wids (branch_from size at 0)) ≡ false
  text_differs =
      let p : Provision = provision_in (at 0) in
      let body : Branches Provision = branches_below size at (below_in (at 0)) in
      neither _ (one_twice (all_wids body)) (all_wids_held p.wid body ∙ not_beneath at number p body 0 0 whole.stands)
      (differ body 0 (below_in (at 0)) (root_climbs at number size whole) whole.stands.1.1 (whole.once 0) (λ j found. found))

-- no two provisions of a tree have one wId
pub wids_differ : (t : Tree) → one_twice (all_wids (tree_view t).body) ≡ false
unfolding tree_view
wids_differ t =
    none_right (is_among (provision_in (at t.arena 0)).wid (all_wids (branches_below (size t.arena) (at t.arena) (below_in (at t.arena 0))))) _
    (text_differs (at t.arena) (number t.arena) (size t.arena) t.whole)

-- no provision of a tree has the wId of the root
pub root_apart : (t : Tree) → any_holds root_wid (tree_view t).body ≡ false
unfolding tree_view
root_apart t =
    let body : Branches Provision = branches_below (size t.arena) (at t.arena) (below_in (at t.arena 0)) in
    sym (all_wids_held root_wid body)
    ∙ ap (λ w. is_among w (all_wids body)) (sym (ap (λ p. p.wid) t.whole.root))
    ∙ none_left (is_among (provision_in (at t.arena 0)).wid (all_wids body)) _
    (text_differs (at t.arena) (number t.arena) (size t.arena) t.whole)
