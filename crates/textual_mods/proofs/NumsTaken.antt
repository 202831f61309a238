-- Only a num that is taken can be held against a renumbering, and that is told before.
use Rattle.std.proofs.Common.{◌≡◌, ◌∙◌, sym, ap, refl, ℕ, ◌≤◌, true, false, not, cond, ◌&&◌, ◌||◌, List, [], ◌∷◌, map, nat_lt, None, inl, inr, arith}
use Rattle.std.specs.Prelude.{Ok, Err, option_map}
use Rattle.std.specs.List.{list_any, list_all}
use Rattle.std.specs.Str.{bytes_eq}
use Rattle.std.proofs.lemmas.Bool.{cases_Bool, cases_lt, cond_both, not-true, and_parts, and_from, le-ltb}
use Rattle.eid_paths.specs.declared.numbering.Numbering.{Numbering}
use Rattle.eid_paths.specs.Levels.{level_text}
use Rattle.eid_paths.specs.Nums.{is_num}
use Rattle.act_tree.specs.declared.cause.Cause.TheVariants.{NumberTaken}
use Rattle.act_tree.specs.declared.tree.Tree.{Tree}
use Rattle.act_tree.specs.Branches.{Branches, branch, no_branches, more_branches, heights, counts}
use Rattle.act_tree.specs.Changes.{num_given, renumbered, root_wid}
use Rattle.act_tree.specs.EidLevels.{all_beginning, alike_beneath}
use Rattle.act_tree.specs.Faults.{all_owns, all_eids, is_long, have_long, first_fault, first_cause, fault_cause}
use Rattle.act_tree.specs.Numbered.{are_numbered}
use Rattle.act_tree.specs.Provisions.{Provision}
use Rattle.act_tree.specs.Seen.{tree_view, with_body}
use Rattle.act_tree.specs.Wids.{is_among, one_twice, all_wids}
use Rattle.act_tree.proofs.FoundNodes.{nums_kept}
use Rattle.act_tree.proofs.Frames.{none_left, none_right}
use Rattle.act_tree.proofs.LevelsDiffer.{levels_decide}
use Rattle.act_tree.proofs.Nums.{both}
use Rattle.act_tree.proofs.Renumbering.{none_renumbered}
use Rattle.act_tree.proofs.Texts.{same_text, equal_text, bytes_eq_sym}
use Rattle.textual_mods.specs.Edits.{unless_for, within_limits}
use Rattle.textual_mods.specs.NumChanges.{Placed, placed_in, level_with, collide, is_renumbered, num_taken, renumbering_fault}
use Rattle.textual_mods.proofs.Limits.{IsPlaced, is_placed, is_short, fault_by, faultless}
use Rattle.textual_mods.proofs.PlacedLevels.{In, in_any, any_in, names, names_are, hit, hits, two_hits, TwoHit, two_found, few_told, differ_told}
use Rattle.act_tree.proofs.WidsDiffer.{wids_differ, root_apart}
use Rattle.act_tree.specs.declared.limits.TheConstants.{MAX_DEPTH}
use Rattle.act_tree.specs.declared.limits.NodeLimit.{NodeLimit}
use Rattle.act_tree.specs.NodeLimits.{most_nodes}

-- a wId that no pair names keeps its num
pub kept_num : (pairs : List (List ℕ × List ℕ)) (wid num : List ℕ) → is_among wid (map (λ pair. pair.0) pairs) ≡ false → num_given pairs wid num ≡ num
kept_num [] wid num none = refl
kept_num (pair ∷ pairs) wid num none =
    ap (λ s. cond s pair.1 (num_given pairs wid num)) (none_left (bytes_eq wid pair.0) _ none) ∙ kept_num pairs wid num (none_right (bytes_eq wid pair.0) _ none)

-- a provision that no pair names has the level that it had
pub kept_hit : (pairs : List (List ℕ × List ℕ)) (k l : List ℕ) (e : Placed) → is_renumbered pairs e.provision ≡ false → hit pairs k l e ≡ hit [] k l e
kept_hit pairs k l e none = ap (λ num. bytes_eq e.under k && bytes_eq l (level_text e.provision.own.element num)) (kept_num pairs e.provision.wid e.provision.own.num none)

-- two that collide have one level beneath one node
pub both_hit : (pairs : List (List ℕ × List ℕ)) (a b : Placed) → collide pairs a b ≡ true
    → (hit pairs a.under (level_with pairs a.provision) a ≡ true) × (hit pairs a.under (level_with pairs a.provision) b ≡ true)
both_hit pairs a b it =
    let rest = and_parts _ _ it in (
      and_from _ _ (equal_text a.under a.under refl) (equal_text (level_with pairs a.provision) (level_with pairs a.provision) refl),
      rest.1,
    )

pub hit_both : (pairs : List (List ℕ × List ℕ)) (k l : List ℕ) (a b : Placed) → bytes_eq a.provision.wid b.provision.wid ≡ false → hit pairs k l a ≡ true → hit pairs k l b ≡ true → collide pairs a b ≡ true
hit_both pairs k l a b apart one other =
    let first = and_parts _ _ one in
    let second = and_parts _ _ other in
    and_from _ _ (ap not apart)
    (and_from _ _ (equal_text b.under a.under (same_text b.under k second.0 ∙ sym (same_text a.under k first.0)))
    (equal_text (level_with pairs a.provision) (level_with pairs b.provision) (sym (same_text l (level_with pairs a.provision) first.1) ∙ same_text l (level_with pairs b.provision) second.1)))

num_kept : (pairs : List (List ℕ × List ℕ)) → list_all (λ pair. is_num pair.1) pairs ≡ true → (wid num : List ℕ) → is_num num ≡ true → is_num (num_given pairs wid num) ≡ true
num_kept [] nums wid num kept = kept
num_kept (pair ∷ pairs) nums wid num kept =
    cond_both (bytes_eq wid pair.0) pair.1 (num_given pairs wid num) (λ v. is_num v ≡ true)
    (λ _. (and_parts _ _ nums).0)
    (λ _. num_kept pairs (and_parts _ _ nums).1 wid num kept)

module _ (pairs : List (List ℕ × List ℕ)) where
  numbered_still : list_all (λ pair. is_num pair.1) pairs ≡ true → (bs : Branches Provision) → are_numbered bs ≡ true → are_numbered (renumbered pairs bs) ≡ true
  numbered_still nums no_branches kept = refl
  numbered_still nums (more_branches (branch p below) bs) kept =
      let parts = and_parts _ _ kept in
      let head = and_parts _ _ parts.0 in
      both _ _ (both _ _ (num_kept pairs nums p.wid p.own.num head.0) (numbered_still nums below head.1)) (numbered_still nums bs parts.1)

  heights_same : (bs : Branches Provision) → heights (all_owns (renumbered pairs bs)) ≡ heights (all_owns bs)
  heights_same no_branches = refl
  heights_same (more_branches (branch p below) bs) = omega (arith, heights_same below, heights_same bs)

  counts_same : (bs : Branches Provision) → counts (all_owns (renumbered pairs bs)) ≡ counts (all_owns bs)
  counts_same no_branches = refl
  counts_same (more_branches (branch p below) bs) = omega (arith, counts_same below, counts_same bs)

  long_same : (bs : Branches Provision) → have_long (all_owns (renumbered pairs bs)) ≡ have_long (all_owns bs)
  long_same no_branches = refl
  long_same (more_branches (branch p below) bs) =
      ap (λ s. (is_long p.own || s) || have_long (all_owns (renumbered pairs bs))) (long_same below)
      ∙ ap (λ s. (is_long p.own || have_long (all_owns below)) || s) (long_same bs)

module _ (t : Tree) (fits : first_cause (tree_view t) ≡ None) where
  abbrev n : Numbering
  n = (tree_view t).numbering

  abbrev limit : NodeLimit
  limit = (tree_view t).limit

  abbrev body : Branches Provision
  body = (tree_view t).body

  abbrev all : List Placed
  all = placed_in (tree_view t)

  faultless_body : first_fault n limit (all_owns body) ≡ None
  faultless_body = faultless (tree_view t) fits

  placed : IsPlaced n limit (all_owns body)
  placed = is_placed n limit (all_owns body) faultless_body

  body_levels : (one_twice (all_beginning n true (all_owns body)) || alike_beneath n (all_owns body)) ≡ false
  body_levels = sym (levels_decide n body (nums_kept t)) ∙ placed.once

  once : one_twice (all_wids body) ≡ false
  once = wids_differ t

  all_once : one_twice (names all) ≡ false
  all_once = ap one_twice (names_are n true root_wid body) ∙ once

  -- as the text stands, a level stands once beneath a node
  pub few_before : (k l : List ℕ) → hits [] k l all ≤ 1
  few_before k l =
      few_told [] k l n body once (root_apart t)
      (ap (λ bs. one_twice (all_beginning n true (all_owns bs)) || alike_beneath n (all_owns bs)) (none_renumbered body) ∙ body_levels)

  module _ (pairs : List (List ℕ × List ℕ)) (nums : list_all (λ pair. is_num pair.1) pairs ≡ true) where
    abbrev text : Branches Provision
    text = renumbered pairs body

    -- a num that is taken has a level stand twice
    taken_twice : num_taken (tree_view t) pairs ≡ true → ((k l : List ℕ) → hits pairs k l all ≤ 1) → ⊥
    taken_twice is few =
        let one : (a : Placed) × (In a all × ((is_renumbered pairs a.provision && list_any (collide pairs a) all) ≡ true)) = any_in _ all is in
        by one.0 one.1.0 (any_in (collide pairs one.0) all (and_parts _ _ one.1.1).1)
      where
        by : (a : Placed) → In a all → (b : Placed) × (In b all × (collide pairs a b ≡ true)) → ⊥
        by a a_in (b, (b_in, both)) =
            let held = both_hit pairs a b both in
            let two : 2 ≤ hits pairs a.under (level_with pairs a.provision) all = two_hits pairs a.under (level_with pairs a.provision) a b all a_in b_in (not-true _ (and_parts _ _ both).0) held.0 held.1 in
            let most : hits pairs a.under (level_with pairs a.provision) all ≤ 1 = few a.under (level_with pairs a.provision) in
            absurd (omega arith)

    -- where none is, none does
    collides : (a b : Placed) → In a all → In b all → is_renumbered pairs a.provision ≡ true → collide pairs a b ≡ true → num_taken (tree_view t) pairs ≡ true
    collides a b one other named both = in_any _ a all one (and_from _ _ named (in_any (collide pairs a) b all other both))

    few_after : num_taken (tree_view t) pairs ≡ false → (k l : List ℕ) → hits pairs k l all ≤ 1
    few_after free k l =
        elim (cases_lt (hits pairs k l all) 2) [
          | inl less ↦ omega (arith, less)
          | inr more ↦
              let two : TwoHit pairs k l all = two_found pairs k l all all_once more in
              let turned : bytes_eq two.other.provision.wid two.one.provision.wid ≡ false = bytes_eq_sym two.other.provision.wid two.one.provision.wid ∙ two.apart in
              absurd (elim (cases_Bool (is_renumbered pairs two.one.provision)) [
                | inl named ↦ (let never : true ≡ false = sym (collides two.one two.other two.one_in two.other_in named (hit_both pairs k l two.one two.other two.apart two.one_has two.other_has)) ∙ free in cc)
                | inr none ↦ elim (cases_Bool (is_renumbered pairs two.other.provision)) [
                  | inl named ↦ (let never : true ≡ false = sym (collides two.other two.one two.other_in two.one_in named (hit_both pairs k l two.other two.one turned two.other_has two.one_has)) ∙ free in cc)
                  | inr neither ↦
                      let both : 2 ≤ hits [] k l all = two_hits [] k l two.one two.other all two.one_in two.other_in two.apart (sym (kept_hit pairs k l two.one none) ∙ two.one_has) (sym (kept_hit pairs k l two.other neither) ∙ two.other_has) in
                      let most : hits [] k l all ≤ 1 = few_before k l in
                      omega arith
                ]
              ])
        ]

    taken : one_twice (all_eids n None (all_owns text)) ≡ num_taken (tree_view t) pairs
    taken =
        levels_decide n text (numbered_still pairs nums body (nums_kept t))
        ∙ elim (cases_Bool (num_taken (tree_view t) pairs)) [
          | inr free ↦ differ_told pairs n body (few_after free) ∙ sym free
          | inl is ↦ elim (cases_Bool (one_twice (all_beginning n true (all_owns text)) || alike_beneath n (all_owns text))) [
            | inl twice ↦ twice ∙ sym is
            | inr differ ↦ absurd (taken_twice is (λ k l. few_told pairs k l n body once (root_apart t) differ))
          ]
        ]

    low : nat_lt MAX_DEPTH (heights (all_owns text)) ≡ false
    low = ap (nat_lt MAX_DEPTH) (heights_same pairs body) ∙ le-ltb MAX_DEPTH (heights (all_owns body)) placed.low

    few : nat_lt (most_nodes limit) (counts (all_owns text)) ≡ false
    few = ap (nat_lt (most_nodes limit)) (counts_same pairs body) ∙ le-ltb (most_nodes limit) (counts (all_owns body)) placed.few

    -- the first fault with the nums that pairs give
    pub fault_of_renumbering : first_cause (with_body t text) ≡ option_map fault_cause (renumbering_fault (tree_view t) pairs)
    fault_of_renumbering =
        ap (λ s. option_map fault_cause (fault_by s (nat_lt MAX_DEPTH (heights (all_owns text))) (nat_lt (most_nodes limit) (counts (all_owns text))) (have_long (all_owns text)))) taken
        ∙ ap (λ s. option_map fault_cause (fault_by (num_taken (tree_view t) pairs) s (nat_lt (most_nodes limit) (counts (all_owns text))) (have_long (all_owns text)))) low
        ∙ ap (λ s. option_map fault_cause (fault_by (num_taken (tree_view t) pairs) false s (have_long (all_owns text)))) few
        ∙ ap (λ s. option_map fault_cause (fault_by (num_taken (tree_view t) pairs) false false s)) (long_same pairs body ∙ is_short n limit (all_owns body) faultless_body)

    pub nums_held : num_taken (tree_view t) pairs ≡ true → within_limits (tree_view t) (Ok text) ≡ Err NumberTaken
    nums_held is = ap (λ c. unless_for c text) (fault_of_renumbering ∙ ap (λ s. option_map fault_cause (fault_by s false false false)) is)

    pub nums_done : num_taken (tree_view t) pairs ≡ false → within_limits (tree_view t) (Ok text) ≡ Ok text
    nums_done is = ap (λ c. unless_for c text) (fault_of_renumbering ∙ ap (λ s. option_map fault_cause (fault_by s false false false)) is)
