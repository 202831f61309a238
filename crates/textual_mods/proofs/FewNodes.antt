-- No more provisions are in a tree than numbers of which each node's is less: each wId leads to a number of its own.
use Rattle.std.proofs.Common.{◌≡◌, ◌∙◌, sym, ap, refl, ℕ, ◌≤◌, ◌<◌, true, false, List, [], ◌∷◌, length, map, Option, Some, None, inl, inr, arith}
use Rattle.std.specs.List.{list_any, AllByRecursion, IsDistinct}
use Rattle.std.specs.Str.{bytes_eq}
use Rattle.std.proofs.Math.Dec.{eqb}
use Rattle.std.proofs.lemmas.Bool.{cases_Bool, or_cases, eqb-true}
use Rattle.std.proofs.lemmas.List.{length-append, length-map}
use Rattle.std.proofs.lemmas.Map.Steps.{length-le_from_distinct_below}
use Rattle.act_tree.specs.declared.tree.Tree.{Tree}
use Rattle.act_tree.specs.Arena.{name_in, below_in, branch_from, branches_below, provision_in}
use Rattle.act_tree.specs.Branches.{Branch, Branches, branch, no_branches, more_branches, count, counts}
use Rattle.act_tree.specs.Changes.{holds, any_holds, without}
use Rattle.act_tree.specs.Provisions.{Provision}
use Rattle.act_tree.specs.Seen.{tree_view, has_node, provision_at}
use Rattle.act_tree.specs.Slots.{at, number, size}
use Rattle.act_tree.specs.Wids.{wids, all_wids, is_among, one_twice}
use Rattle.act_tree.proofs.Climbing.{has_number, found_climbs}
use Rattle.act_tree.proofs.Frames.{or_left, or_right, none_left, none_right}
use Rattle.act_tree.proofs.Texts.{equal_text}
use Rattle.textual_mods.specs.Substitutions.{text_left}
use Rattle.textual_mods.proofs.InsertedTrees.{counts_owns}
use Rattle.textual_mods.proofs.OnePlace.{all_among}
use Rattle.textual_mods.proofs.Removals.{counts_less}
use Rattle.act_tree.proofs.WidsDiffer.{wids_differ}

mutual
  wids_of : (b : Branch Provision) → length (wids b) ≡ count b
  wids_of (branch p below) = omega (arith, all_wids_of below)

  -- as many wIds as provisions
  all_wids_of : (bs : Branches Provision) → length (all_wids bs) ≡ counts bs
  all_wids_of no_branches = refl
  all_wids_of (more_branches b bs) = length-append (wids b) (all_wids bs) ∙ omega (arith, wids_of b, all_wids_of bs)

abbrev told : Option ℕ → ℕ
told None = 0
told (Some k) = k

module _ (t : Tree) where
  -- the number to which a wId leads
  abbrev leads : List ℕ → ℕ
  leads w = told (number t.arena w)

  abbrev Led : List (List ℕ) → Type 0
  Led ws = (w : List ℕ) → is_among w ws ≡ true → (k : ℕ) × (number t.arena w ≡ Some k)

  later : (w : List ℕ) (ws : List (List ℕ)) → Led (w ∷ ws) → Led ws
  later w ws led v found = led v (or_right (bytes_eq v w) _ found)

  one_wid : (w v : List ℕ) (i j : ℕ) → number t.arena w ≡ Some i → number t.arena v ≡ Some j → i ≡ j → w ≡ v
  one_wid w v i j first second same =
      let one : Some w ≡ Some v = sym (t.whole.named w i first) ∙ ap (λ k. name_in (at t.arena k)) same ∙ t.whole.named v j second in
      cc

  apart : (w : List ℕ) (ws : List (List ℕ)) → (k : ℕ) × (number t.arena w ≡ Some k) → Led ws → is_among w ws ≡ false → AllByRecursion (λ j. eqb (leads w) j ≡ false) (map leads ws)
  apart w [] i led none = tt
  apart w (v ∷ ws) i led none =
      let j : (k : ℕ) × (number t.arena v ≡ Some k) = led v (or_left _ _ (equal_text v v refl)) in (
        elim (cases_Bool (eqb (leads w) (leads v))) [
          | inl same ↦ absurd (
              let text : w ≡ v = one_wid w v i.0 j.0 i.1 j.1 (sym (ap told i.1) ∙ eqb-true (leads w) (leads v) same ∙ ap told j.1) in
              let never : true ≡ false = sym (equal_text w v text) ∙ none_left (bytes_eq w v) _ none in
              cc)
          | inr differ ↦ differ
        ],
        apart w ws i (later v ws led) (none_right (bytes_eq w v) _ none),
      )

  distinct : (ws : List (List ℕ)) → Led ws → one_twice ws ≡ false → IsDistinct eqb (map leads ws)
  unfolding IsDistinct
  distinct [] led once = tt
  distinct (w ∷ ws) led once =
      (apart w ws (led w (or_left _ _ (equal_text w w refl))) (later w ws led) (none_left (is_among w ws) _ once), distinct ws (later w ws led) (none_right (is_among w ws) _ once))

  below : (n : ℕ) (ws : List (List ℕ)) → ((w : List ℕ) → is_among w ws ≡ true → leads w < n) → (q : ℕ) → list_any (eqb q) (map leads ws) ≡ true → q < n
  below n [] low q found = absurd cc
  below n (w ∷ ws) low q found =
      elim (or_cases (eqb q (leads w)) (list_any (eqb q) (map leads ws)) found) [
        | inl it ↦ (let less : leads w < n = low w (or_left _ _ (equal_text w w refl)) in let same : q ≡ leads w = eqb-true q (leads w) it in omega arith)
        | inr behind ↦ below n ws (λ v among. low v (or_right (bytes_eq v w) _ among)) q behind
      ]

  held : (w : List ℕ) → is_among w (all_wids (tree_view t).body) ≡ true → holds w (branch_from (size t.arena) (at t.arena) 0) ≡ true
  unfolding tree_view
  held w found =
      let body : Branches Provision = branches_below (size t.arena) (at t.arena) (below_in (at t.arena 0)) in
      or_right (bytes_eq (provision_in (at t.arena 0)).wid w) (any_holds w body) (all_among w body ∙ found)

  led : Led (all_wids (tree_view t).body)
  led w found = has_number (at t.arena) (number t.arena) (branch_from (size t.arena) (at t.arena) 0) w 0 0 t.whole.stands (held w found)

  low_led : (n : ℕ) → ((k : ℕ) → has_node t k ≡ true → k < n) → (w : List ℕ) → is_among w (all_wids (tree_view t).body) ≡ true → leads w < n
  unfolding has_node
  low_led n low w found =
      let k : (i : ℕ) × (number t.arena w ≡ Some i) = led w found in
      let less : k.0 < n = low k.0 (found_climbs (at t.arena) (number t.arena) (size t.arena) t.whole w k.0 (held w found) k.1) in
      let same : leads w ≡ k.0 = ap told k.1 in
      omega arith

  few_nodes : (n : ℕ) → ((k : ℕ) → has_node t k ≡ true → k < n) → counts (tree_view t).body ≤ n
  few_nodes n low =
      let ws : List (List ℕ) = all_wids (tree_view t).body in
      let few : length (map leads ws) ≤ n = length-le_from_distinct_below (map leads ws) n (distinct ws led (wids_differ t)) (below n ws (low_led n low)) in
      omega (arith, few, length-map ws leads, all_wids_of (tree_view t).body)

-- nor are more left where a node goes
pub few_left : (t : Tree) (gone : Option ℕ) (n : ℕ) → ((k : ℕ) → has_node t k ≡ true → k < n) → counts (text_left t gone) ≤ n
few_left t None n low = few_nodes t n low
few_left t (Some id) n low =
    let w : List ℕ = (provision_at t id).wid in
    let body : Branches Provision = (tree_view t).body in
    omega (arith, few_nodes t n low, counts_less w body, counts_owns (without w body), counts_owns body)
